-- Where a unit of a good loses or gains, at a price below the reserve.
use Rattle.std.proofs.Common.{◌≡◌, Bool, true, false, ℤ, pos, ◌+ℤ◌, ◌-ℤ◌, ◌<ℤ◌, arith}
use Rattle.std.proofs.lemmas.Int.{ints, clamps}
use Rattle.std.specs.Int.{int_max}
use Rattle.mix_num.specs.Vectors.{bit}

pub loses_below : (r p : ℤ) (b d : Bool) → p <ℤ r → bit d ≡ int_max (pos 0) (r -ℤ p) -ℤ int_max (pos 0 -ℤ bit b) (r -ℤ (p +ℤ bit d))
loses_below r p true true h = omega (arith, ints, clamps)
loses_below r p true false h = omega (arith, ints, clamps)
loses_below r p false true h = omega (arith, ints, clamps)
loses_below r p false false h = omega (arith, ints, clamps)
