use Rattle.std.proofs.Common.{◌≡◌, ◌+◌, ◌<◌, List, ◌∷◌, Bool, cond, length, get_or, ℤ, pos, arith, ap, ap₂, ◌∙◌, w64, to_z, of_z}
use Rattle.std.proofs.lemmas.Int.{ints, to_z-of_z}
use Rattle.mix_num.specs.Vectors.{members}
use Rattle.mix_num.proofs.Additions.{sum_of_first, sum_of_first-null, sum_of_first-more, sum_of_first-all, counted_lies}
use Rattle.mix_num.proofs.sums.sum_over.Goals as goal

pub loop-k-init : goal.loop-k-init
loop-k-init c =
    let null = to_z-of_z w64 c.args.null c.ranges.null in
    let lies = counted_lies 5000000000 (members c.args.set 0) c.args.null c.requires.null in
    let first = sum_of_first-null c.args.null c.args.bundle.now.items c.args.set in
    let e = ap (λ (a : ℤ). sum_of_first 1 (a ∷ c.args.bundle.now.items) c.args.set) null in
    let v = c.counted-sum.ensures ∙ ap₂ (λ (b : Bool) (a : ℤ). cond b a (pos 0)) c.has.ensures null in
    record { value = omega (arith, ints, first, e, v, lies); range = (omega (arith, ints, v, lies), omega (arith, ints, v, lies)); near = λ m h. let l = counted_lies m (members c.args.set 0) c.args.null (omega (arith, ints, h.0, null), omega (arith, ints, h.1, null)) in (omega (arith, ints, v, l), omega (arith, ints, v, l)) }

pub loop-k-preserved : goal.loop-k-preserved
loop-k-preserved c =
    let same = c.deref-amount-items.ensures.0 in
    let lt : c.loop-k.k < length c.args.bundle.now.items = rw same at c.loop-k-test.true in
    let here = c.requires.entries c.loop-k.k (pos 0) lt in
    let lies = counted_lies 8000000 (members c.args.set (c.loop-k.k + 1)) _ here in
    let i = ap (λ (y : List ℤ). get_or y c.loop-k.k (pos 0)) same in
    let amount : to_z w64 (of_z w64 (get_or c.deref-amount-items.result.now c.loop-k.k (pos 0))) ≡ get_or c.args.bundle.now.items c.loop-k.k (pos 0) = omega (arith, ints, i, here) in
    let v = c.counted-sum-in-loop-k.ensures ∙ ap₂ (λ (b : Bool) (a : ℤ). cond b a (pos 0)) c.has-in-loop-k.ensures amount in
    let more = sum_of_first-more c.loop-k.k (to_z w64 (of_z w64 c.args.null)) c.args.bundle.now.items c.args.set in
    record {
      value = omega (arith, ints, v, lies, more, c.loop-k.invariant.value, c.loop-k.invariant.range);
      range = omega (arith, ints, v, lies, c.loop-k.invariant.range);
      near = λ m h. let l = c.loop-k.invariant.near m h in let r = c.loop-k.invariant.range in (omega (arith, ints, v, lies, l, r), omega (arith, ints, v, lies, l, r));
    }

pub returns-clause-value : goal.returns-clause-value
returns-clause-value c =
    let null = to_z-of_z w64 c.args.null c.ranges.null in
    let same = ap (λ (y : List ℤ). length y) c.deref-amount-items.ensures.0 in
    let end = c.loop-k.auto.k-end in
    let out = c.loop-k-test.false in
    c.loop-k.invariant.value
    ∙ ap (λ (a : ℤ). sum_of_first (c.loop-k.k + 1) (a ∷ c.args.bundle.now.items) c.args.set) null
    ∙ sum_of_first-all c.loop-k.k c.args.null c.args.bundle.now.items c.args.set (omega (arith, same, end, out))

pub returns-clause-near : goal.returns-clause-near
returns-clause-near c = λ m h.
    let null = to_z-of_z w64 c.args.null c.ranges.null in
    let l = c.loop-k.invariant.near m (omega (arith, ints, h.0, null), omega (arith, ints, h.1, null)) in
    let few = c.deref-amount-items.ensures.1 in
    let end = c.loop-k.auto.k-end in
    (omega (arith, ints, l, few, end), omega (arith, ints, l, few, end))
