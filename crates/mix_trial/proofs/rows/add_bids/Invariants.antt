use Rattle.std.proofs.Common.{◌≡◌, ◌++◌, [], drop, map}
use Rattle.mix_text.specs.Pages.{printed}
use Rattle.mix_trial.specs.Printing.{bid_row}
use Rattle.mix_trial.proofs.rows.add_bids.Given as goal

-- the rows so far, and those of the bids from here on, are those at first and all of them
abbrev pub invariant-loop-bid : goal.invariant-loop-bid
invariant-loop-bid l = record {
  open_row : l.page.fields ≡ [];
  so_far : l.page.ended ++ printed (map (bid_row l.name.bytes) (drop l.bid-index l.bids)) ≡ l.fn.page.ended ++ printed (map (bid_row l.name.bytes) l.bids);
}
