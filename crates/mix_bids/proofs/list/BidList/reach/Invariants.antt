use Rattle.std.proofs.Common.{◌≡◌, drop, pos, ◌≤ℤ◌}
use Rattle.std.specs.Int.{int_min}
use Rattle.mix_num.specs.Vectors.{members, with_null}
use Rattle.mix_bids.specs.Reaches.{reach_of}
use Rattle.mix_bids.proofs.list.BidList.reach.Given as goal

abbrev pub invariant-loop-bid : goal.invariant-loop-bid
invariant-loop-bid l = record {
  so_far : int_min l.least (reach_of l.self.goods (members l.set) (drop l.bid-index l.bid-items) (with_null l.prices.items)) ≡ reach_of l.self.goods (members l.set) l.bid-items (with_null l.prices.items);
  range : (pos 1 ≤ℤ l.least) × (l.least ≤ℤ pos 8000000);
}
