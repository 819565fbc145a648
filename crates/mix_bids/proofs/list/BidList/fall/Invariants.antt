use Rattle.std.proofs.Common.{◌≡◌, ◌*◌, suc, Bool, drop, pos, neg_ℤ, ◌≤ℤ◌, ◌+ℤ◌}
use Rattle.mix_num.specs.Vectors.{members, with_null}
use Rattle.mix_bids.specs.Offers.{best, within}
use Rattle.mix_bids.specs.Bids.{weight_where}
use Rattle.mix_bids.specs.declared.bid.Bid.{Bid}
use Rattle.mix_bids.proofs.list.BidList.fall.Given as goal

abbrev pub invariant-loop-bid : goal.invariant-loop-bid
invariant-loop-bid l =
    let counts : Bid → Bool = λ b. within (suc l.self.goods) (best b.values.items (with_null l.prices.items)) (members l.set) in
    record {
      so_far : l.sum +ℤ weight_where counts (drop l.bid-index l.bid-items) ≡ weight_where counts l.bid-items;
      low : neg_ℤ (pos (10000 * l.bid-index)) ≤ℤ l.sum;
      high : l.sum ≤ℤ pos (10000 * l.bid-index);
    }
