use Rattle.std.proofs.Common.{◌≡◌, ◌+◌, ◌<◌, List, Bool, cond, length, get_or, ℤ, pos, ◌+ℤ◌, refl, arith, ap, ap₂, ◌∙◌, w64, to_z, of_z, add-one}
use Rattle.std.proofs.lemmas.Int.{ints}
use Rattle.mix_num.specs.Vectors.{members}
use Rattle.mix_num.proofs.Additions.{counted_lies}
use Rattle.mix_num.specs.Pairs.{sum_before}
use Rattle.mix_num.proofs.pair.amount_before.Goals as goal

pub loop-place-preserved : goal.loop-place-preserved
loop-place-preserved c =
    let lt : c.loop-place.place < length c.args.bundle.now.items = omega arith in
    let here = c.requires.entries c.loop-place.place (pos 0) lt in
    let i = ap (λ (y : List ℤ). get_or y c.loop-place.place (pos 0)) c.deref.ensures.0 in
    let lies = counted_lies 8000000 (members c.args.set (c.loop-place.place + 1)) _ here in
    let amount : to_z w64 (of_z w64 (get_or c.deref.result.now c.loop-place.place (pos 0))) ≡ get_or c.args.bundle.now.items c.loop-place.place (pos 0) = omega (arith, ints, i, here) in
    let v = c.counted-sum.ensures ∙ ap₂ (λ (b : Bool) (a : ℤ). cond b a (pos 0)) c.has.ensures amount in
    let more : sum_before (c.loop-place.place + 1) c.args.bundle.now.items c.args.set ≡ sum_before c.loop-place.place c.args.bundle.now.items c.args.set +ℤ cond (members c.args.set (c.loop-place.place + 1)) (get_or c.args.bundle.now.items c.loop-place.place (pos 0)) (pos 0) = rw add-one refl in
    record {
      value = omega (arith, ints, v, lies, more, c.loop-place.invariant.value, c.loop-place.invariant.range);
      range = omega (arith, ints, v, lies, c.loop-place.invariant.range);
    }
