use Rattle.std.proofs.Common.{◌≡◌, ℕ, ◌+◌, ◌*◌, ◌%◌, get_or, ℤ, pos, ◌-ℤ◌, true, false, ◌/◌, arith, ap, ◌∙◌, w64, to_z, of_z, below_more}
use Rattle.std.specs.Int.{int_min}
use Rattle.std.proofs.lemmas.Int.{ints, clamps}
use Rattle.std.proofs.Common.{inl, inr}
use Rattle.mix_ties.proofs.Sandwiches.{int_min_one}
use Rattle.mix_ties.specs.Numbered.{with_first}
use Rattle.mix_ties.proofs.contraction.first_most.Goals as goal

pub loop-set-init : goal.loop-set-init
loop-set-init c = record { below = λ k h. absurd (omega arith); at = (0, omega arith, omega (arith, ints, c.requires.upper_range 2 (omega arith), c.requires.lower_range 0 (omega arith))) }

pub loop-set-preserved : goal.loop-set-preserved
loop-set-preserved c =
    let m : ℕ = c.loop-set.set in
    let i0 : m / 2 * 4 + m % 2 ≡ with_first false m = omega arith in
    let i1 : m / 2 * 4 + m % 2 + 2 ≡ with_first true m = omega arith in
    let e0 = ap (λ i. get_or c.args.lower.now i (pos 0)) i0 in
    let e1 = ap (λ i. get_or c.args.upper.now i (pos 0)) i1 in
    let r0 = c.requires.lower_range (with_first false m) (omega arith) in
    let r1 = c.requires.upper_range (with_first true m) (omega arith) in
    let here : ℤ = get_or c.args.upper.now (with_first true m) (pos 0) -ℤ get_or c.args.lower.now (with_first false m) (pos 0) in
    let v : to_z w64 (of_z w64 c.min-most.result) ≡ int_min (to_z w64 c.loop-set.most-bits) here = omega (arith, ints, clamps, c.min-most.ensures.value, e0, e1, r0, r1) in
    record {
      below = below_more _ _ (λ k h. omega (arith, ints, clamps, v, c.loop-set.invariant.below k h)) (omega (arith, ints, clamps, v));
      at = elim (int_min_one (to_z w64 c.loop-set.most-bits) here) [
        | inl e ↦ (c.loop-set.invariant.at.0, c.loop-set.invariant.at.1, v ∙ e ∙ c.loop-set.invariant.at.2)
        | inr e ↦ (m, c.loop-set-test.true, v ∙ e)
      ];
    }
