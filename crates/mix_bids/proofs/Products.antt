-- The product of a weight and a test.
use Rattle.std.proofs.Common.{◌≡◌, Bool, true, false, cond, ℤ, pos, ◌*ℤ◌, arith}
use Rattle.std.proofs.lemmas.Int.{ints}
use Rattle.mix_num.specs.Vectors.{bit}

pub times_bit : (w : ℤ) (b : Bool) → w *ℤ bit b ≡ cond b w (pos 0)
times_bit w true = omega (arith, ints)
times_bit w false = omega (arith, ints)
