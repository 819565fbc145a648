use Rattle.std.proofs.Common.{arith, ap, ◌∙◌, ◌≡◌, suc, to_z, of_z, w64, refl, cond, pos, add-one}
use Rattle.std.proofs.lemmas.Int.{ints}
use mathlib.Core.Path.{fun_ext}
use Rattle.mix_num.specs.Vectors.{members, with_null}
use Rattle.mix_bids.specs.Offers.{best, meets as meets_of}
use Rattle.mix_bids.specs.Bids.{weight_meeting}
use Rattle.mix_bids.specs.declared.bid.Bid.{Bid}
use Rattle.mix_bids.proofs.Lengths.{over_of}
use Rattle.mix_bids.proofs.Weights.{utility_rises}
use Rattle.mix_bids.proofs.Loops.{bid_at, weight_step, weight_end}
use Rattle.mix_bids.proofs.list.BidList.gain_down.Goals as goal

pub loop-bid-preserved : goal.loop-bid-preserved
loop-bid-preserved c =
    let n = c.args.self.now.goods in
    let x = with_null c.args.prices.now.items in
    let s = members c.args.set in
    let b = bid_at _ _ _ _ _ refl c.loop-bid-test.true c.bid-item.is c.bids-bid-items.ensures.proper in
    let q = b.weight in
    let w : to_z w64 (of_z w64 c.bid-item.result.weight) ≡ c.bid-item.result.weight = omega (arith, ints) in
    let e = ap (λ z. cond c.meets.result z (pos 0)) w in
    let p = c.requires.0 in
    let u = rw (p, add-one n) at c.best_set.ensures.within in
    let t = c.meets.ensures (suc n) u ∙ ap (λ z. meets_of (suc n) z s) (fun_ext c.best_set.ensures.best) in
    record {
      so_far = weight_step (λ (b : Bid). meets_of (suc n) (best b.values.items x) s) _ _ _ _ _ _ _ c.loop-bid-test.true c.bid-item.is t (omega (arith, ints, e)) c.loop-bid.invariant.so_far;
      low = omega (arith, ints);
      high = omega (arith, ints);
    }

pub returns-clause-value : goal.returns-clause-value
returns-clause-value c =
    let n = c.args.self.now.goods in
    let bs = c.args.self.now.bids in
    let x = with_null c.args.prices.now.items in
    let s = members c.args.set in
    let v = c.bids-bid-items.ensures.value in
    let e = weight_end (λ (b : Bid). meets_of (suc n) (best b.values.items x) s) _ c.loop-bid.bid-index _ _ (omega arith) c.loop-bid.invariant.so_far ∙ ap (λ z. weight_meeting n s z x) v in
    let f = utility_rises n bs x s (over_of n bs (rw v at c.bids-bid-items.ensures.proper)) in
    omega (arith, ints, e, f)
