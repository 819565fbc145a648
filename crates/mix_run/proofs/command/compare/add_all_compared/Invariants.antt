use Rattle.std.proofs.Common.{◌≡◌, ◌++◌, ◌-◌, ℕ, List, [], drop, take}
use Rattle.mix_text.specs.Bidders.{list_at}
use Rattle.mix_text.specs.Pages.{printed}
use Rattle.mix_run.specs.command.Compare.{AreRowsOf}
use Rattle.mix_run.proofs.command.compare.add_all_compared.Given as goal

-- the rows so far are those of the bidders up to here
abbrev pub invariant-loop-k : goal.invariant-loop-k
invariant-loop-k l = record {
  closed : l.page.fields ≡ [];
  so_far : (rows : List (List (List ℕ))) × AreRowsOf (list_at l.auction.bidders 0) (take (l.k - 1) (drop 1 l.auction.bidders)) rows × (l.page.ended ≡ l.fn.page.ended ++ printed rows);
}
