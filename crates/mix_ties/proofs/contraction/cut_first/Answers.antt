use Rattle.std.proofs.Common.{◌≡◌, ℕ, ◌+◌, ◌*◌, ◌%◌, ◌<◌, ◌≢◌, length, get_or, pos, true, false, ◌/◌, arith, ap, ◌∙◌, below_more, get_or-set_other, get_or-set_same}
use Rattle.std.proofs.lemmas.Int.{ints, clamps}
use Rattle.mix_ties.specs.Numbered.{with_first}
use Rattle.mix_ties.proofs.contraction.cut_first.Goals as goal

pub loop-set-preserved : goal.loop-set-preserved
loop-set-preserved c =
    let m : ℕ = c.loop-set.set in
    let i0 : m / 2 * 4 + m % 2 ≡ with_first false m = omega arith in
    let i1 : m / 2 * 4 + m % 2 + 2 ≡ with_first true m = omega arith in
    let e0 = c.loop-set.invariant.rest (m / 2 * 4 + m % 2) (omega arith) ∙ ap (λ i. get_or c.args.numbers.now i (pos 0)) i0 in
    let e1 = c.loop-set.invariant.rest (m / 2 * 4 + m % 2 + 2) (omega arith) ∙ ap (λ i. get_or c.args.numbers.now i (pos 0)) i1 in
    let r0 = c.requires.range (with_first false m) (omega arith) in
    let r1 = c.requires.range (with_first true m) (omega arith) in
    record {
      done = below_more _ _
          (λ k h. let ne : k ≢ c.loop-set.set = omega arith in rw get_or-set_other (c.loop-set.invariant.done k h))
          (let lt : c.loop-set.set < length c.loop-set.numbers = omega arith in rw get_or-set_same (omega (arith, ints, clamps, c.min.ensures.value, e0, e1, r0, r1)));
      rest = λ k h. let ne : k ≢ c.loop-set.set = omega arith in rw get_or-set_other (c.loop-set.invariant.rest k (omega arith));
    }
