use Rattle.std.proofs.Common.{◌≡◌, ◌∙◌, ℤ, ap, arith, refl, cond, of_z, pos, to_z, w64, ◌*ℤ◌, take}
use Rattle.std.proofs.lemmas.Int.{ints}
use Rattle.std.specs.Ordering.{is_eq}
use Rattle.mix_bids.proofs.Loops.{bid_at}
use Rattle.mix_canon.specs.Canons.{value_order, weight_of}
use Rattle.mix_canon.proofs.PartWeights.{part_lies, weight_more}
use Rattle.mix_canon.proofs.weights.gather.Goals as goal

pub add-requires-clause-so_far : goal.add-requires-clause-so_far
add-requires-clause-so_far c =
    let v = c.bid-item.result.values.items in
    let s = c.requires.so_far v in
    let e = c.loop-bid.invariant v in
    let f = c.requires.factor in
    let l : to_z w64 (of_z w64 c.args.factor) ≡ c.args.factor = omega (arith, ints, f.0, f.1) in
    let p = part_lies c.args.list.now.goods c.args.factor v c.bids-bid-items.result.now c.loop-bid.bid-index f c.bids-bid-items.ensures.proper c.bids-bid-items.ensures.few in
    let q = ap (λ (a : ℤ). a *ℤ weight_of v (take c.loop-bid.bid-index c.bids-bid-items.result.now)) l in
    (omega (arith, ints, s.0, p.0, e, q), omega (arith, ints, s.1, p.1, e, q))

pub loop-bid-preserved : goal.loop-bid-preserved
loop-bid-preserved c = λ v.
    let f = c.requires.factor in
    let r = c.times.ensures.range in
    let l : to_z w64 (of_z w64 c.args.factor) ≡ c.args.factor = omega (arith, ints, f.0, f.1) in
    let w : to_z w64 (of_z w64 c.times.result) ≡ c.times.result = omega (arith, ints, r.0, r.1) in
    let t = is_eq (value_order v c.bid-item.result.values.items) in
    let a = c.in_ok-add.ensures v in
    let i = (bid_at c.args.list.now.goods _ _ c.loop-bid.bid-index c.bid-item.result refl c.loop-bid-test.true c.bid-item.is c.bids-bid-items.ensures.proper).weight in
    let d : to_z w64 (of_z w64 c.bid-item.result.weight) ≡ c.bid-item.result.weight = omega (arith, ints, i.0, i.1) in
    let b = ap (λ (z : ℤ). cond t z (pos 0)) (w ∙ c.times.ensures.value ∙ ap (λ (z : ℤ). to_z w64 (of_z w64 c.args.factor) *ℤ z) d) in
    let e = c.loop-bid.invariant v in
    let m = weight_more (to_z w64 (of_z w64 c.args.factor)) v c.bids-bid-items.result.now c.loop-bid.bid-index c.bid-item.result c.loop-bid-test.true c.bid-item.is in
    omega (arith, ints, a, b, e, m)
