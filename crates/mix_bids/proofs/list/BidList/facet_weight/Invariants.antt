use Rattle.std.proofs.Common.{◌≡◌, ◌*◌, suc, Bool, drop, pos, neg_ℤ, ◌≤ℤ◌, ◌+ℤ◌}
use Rattle.mix_num.specs.Vectors.{with_null}
use Rattle.mix_bids.specs.Offers.{best, same_set, pair}
use Rattle.mix_bids.specs.Bids.{weight_where}
use Rattle.mix_bids.specs.declared.bid.Bid.{Bid}
use Rattle.mix_bids.proofs.list.BidList.facet_weight.Given as goal

abbrev pub invariant-loop-bid : goal.invariant-loop-bid
invariant-loop-bid l =
    let is_facet : Bid → Bool = λ b. same_set (suc l.self.goods) (best b.values.items (with_null l.prices.items)) (pair l.first l.second) in
    record {
      so_far : l.sum +ℤ weight_where is_facet (drop l.bid-index l.bids) ≡ weight_where is_facet l.bids;
      low : neg_ℤ (pos (10000 * l.bid-index)) ≤ℤ l.sum;
      high : l.sum ≤ℤ pos (10000 * l.bid-index);
    }
