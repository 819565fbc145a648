use Rattle.std.proofs.Common.{◌≡◌, ◌++◌, [], drop}
use Rattle.mix_text.specs.Pages.{printed}
use Rattle.mix_answer.specs.Outcomes.{share_rows}
use Rattle.mix_answer.proofs.rows.add_shares.Given as goal

-- the rows so far, and those of the shares from here on, are those at first and all of them
abbrev pub invariant-loop-k : goal.invariant-loop-k
invariant-loop-k l = record {
  open_row : l.page.fields ≡ [];
  so_far : l.page.ended ++ printed (share_rows (drop l.k l.auction.bidders) (drop l.k l.shares)) ≡ l.fn.page.ended ++ printed (share_rows l.auction.bidders l.shares);
}
