use Rattle.std.proofs.Common.{◌≡◌, drop, pos, ◌≤ℤ◌}
use Rattle.std.specs.Int.{int_max}
use Rattle.mix_bids.specs.Bids.{top_value}
use Rattle.mix_bids.proofs.list.BidList.top.Given as goal

abbrev pub invariant-loop-bid : goal.invariant-loop-bid
invariant-loop-bid l = record {
  so_far : int_max l.greatest (top_value (drop l.bid-index l.bid-items) l.good) ≡ top_value l.bid-items l.good;
  range : (pos 0 ≤ℤ l.greatest) × (l.greatest ≤ℤ pos 1000000);
}
