use Rattle.std.proofs.Common.{arith, ap, ◌∙◌, ◌≡◌, suc, to_z, of_z, w64, refl, cond, pos, add-one}
use Rattle.std.proofs.lemmas.Int.{ints}
use Rattle.mix_num.specs.Vectors.{with_null}
use Rattle.mix_bids.specs.Offers.{best, pair, same_set}
use Rattle.mix_bids.specs.declared.bid.Bid.{Bid}
use Rattle.mix_bids.proofs.Pairs.{pair_beyond}
use Rattle.mix_bids.proofs.Comparisons.{same_is}
use Rattle.mix_bids.proofs.Loops.{bid_at, weight_step}
use Rattle.mix_bids.proofs.list.BidList.facet_weight.Goals as goal

pub loop-bid-preserved : goal.loop-bid-preserved
loop-bid-preserved c =
    let n = c.args.self.now.goods in
    let x = with_null c.args.prices.now.items in
    let b = bid_at _ _ _ _ _ refl c.loop-bid-test.true c.bid-item.is c.bids-bids.ensures.proper in
    let q = b.weight in
    let w : to_z w64 (of_z w64 c.bid-item.result.weight) ≡ c.bid-item.result.weight = omega (arith, ints) in
    let e = ap (λ z. cond c.eq.result z (pos 0)) w in
    let l = c.requires.choices in
    let p = c.requires.prices.0 in
    let u = rw (p, add-one n) at c.best_set.ensures.within in
    let s = same_is (suc n) c.best_set.result c.pair_of-facet.result (best c.bid-item.result.values.items x) (pair c.args.first c.args.second) u c.best_set.ensures.best c.pair_of-facet.ensures (λ k d. pair_beyond c.args.first c.args.second k (omega arith) (omega arith)) in
    record {
      so_far = weight_step (λ (b : Bid). same_set (suc n) (best b.values.items x) (pair c.args.first c.args.second)) _ _ _ _ _ _ _ c.loop-bid-test.true c.bid-item.is (c.eq.ensures ∙ s) (omega (arith, ints, e)) c.loop-bid.invariant.so_far;
      low = omega (arith, ints);
      high = omega (arith, ints);
    }
