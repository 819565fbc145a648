use Rattle.std.proofs.Common.{◌≡◌, ◌++◌, [], drop}
use Rattle.mix_text.specs.Pages.{printed}
use Rattle.mix_trial.specs.Printing.{cap_rows}
use Rattle.mix_trial.proofs.rows.add_caps.Given as goal

-- the rows so far, and those of the caps from here on, are those at first and all of them
abbrev pub invariant-loop-k : goal.invariant-loop-k
invariant-loop-k l = record {
  open_row : l.page.fields ≡ [];
  so_far : l.page.ended ++ printed (cap_rows (drop l.k l.auction.bidders) (drop l.k l.auction.caps)) ≡ l.fn.page.ended ++ printed (cap_rows l.auction.bidders l.auction.caps);
}
