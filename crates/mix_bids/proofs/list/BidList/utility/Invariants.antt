use Rattle.std.proofs.Common.{◌≡◌, ◌*◌, drop, pos, neg_ℤ, ◌≤ℤ◌, ◌+ℤ◌}
use Rattle.mix_num.specs.Vectors.{with_null}
use Rattle.mix_bids.specs.Bids.{utility as utility_of}
use Rattle.mix_bids.proofs.list.BidList.utility.Given as goal

abbrev pub invariant-loop-bid : goal.invariant-loop-bid
invariant-loop-bid l = record {
  so_far : l.sum +ℤ utility_of (drop l.bid-index l.bid-items) (with_null l.prices.items) ≡ utility_of l.bid-items (with_null l.prices.items);
  low : neg_ℤ (pos (50000000000 * l.bid-index)) ≤ℤ l.sum;
  high : l.sum ≤ℤ pos (50000000000 * l.bid-index);
}
