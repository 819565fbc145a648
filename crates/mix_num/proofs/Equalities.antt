-- The test whether two whole numbers are equal.
use Rattle.std.proofs.Common.{◌≡◌, ◌↔◌, ℤ, IsTrue, int_eq, arith}
use Rattle.std.proofs.lemmas.Int.{ints}

pub int_eq_is : (a b : ℤ) → IsTrue (int_eq a b) ↔ (a ≡ b)
int_eq_is a b = grind (arith, ints)
