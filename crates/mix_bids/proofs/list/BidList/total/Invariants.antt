use Rattle.std.proofs.Common.{◌≡◌, ◌*◌, drop, pos, neg_ℤ, ◌≤ℤ◌, ◌+ℤ◌}
use Rattle.mix_bids.specs.Bids.{total_weight}
use Rattle.mix_bids.proofs.list.BidList.total.Given as goal

abbrev pub invariant-loop-bid : goal.invariant-loop-bid
invariant-loop-bid l = record {
  so_far : l.sum +ℤ total_weight (drop l.bid-index l.bid-items) ≡ total_weight l.bid-items;
  low : neg_ℤ (pos (10000 * l.bid-index)) ≤ℤ l.sum;
  high : l.sum ≤ℤ pos (10000 * l.bid-index);
}
