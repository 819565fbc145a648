use Rattle.std.proofs.Common.{◌≡◌, ℕ, ◌+◌, ◌-◌, ◌/◌, ◌<ℤ◌, arith, pos, subst, to_z, of_z, w64}
use Rattle.std.proofs.lemmas.Int.{ints}
use Rattle.mix_cap.specs.Lots.{above, sum_over}
use Rattle.mix_cap.proofs.LotSums.{none_above}
use Rattle.mix_cap.proofs.lots.threshold_of.Goals as goal

pub loop-low-init : goal.loop-low-init
loop-low-init c =
    let n = none_above c.args.lots.now c.requires.lots in
    record {
      order = omega arith;
      small = omega arith;
      passed = omega (arith, ints, c.requires.cap);
      least = λ k e. absurd (omega arith);
    }

pub loop-low-preserved : goal.loop-low-preserved
loop-low-preserved c =
    let i = c.loop-low.invariant in
    let o = i.order in
    let l = c.loop-low-test.true in
    let middle = c.loop-low.low + (c.loop-low.high - c.loop-low.low) / 2 in
    let v = c.units_above.ensures.value in
    let u = c.units_above.ensures.range in
    let f = c.if-units_above-cap.false in
    let t : to_z w64 (of_z w64 c.args.cap) <ℤ sum_over (above (pos middle)) c.args.lots.now = omega (arith, ints, u.0, u.1) in
    record {
      order = omega arith;
      small = i.small;
      passed = i.passed;
      least = λ k e. let g : middle ≡ k = omega arith in subst (λ (z : ℕ). to_z w64 (of_z w64 c.args.cap) <ℤ sum_over (above (pos z)) c.args.lots.now) g t;
    }
