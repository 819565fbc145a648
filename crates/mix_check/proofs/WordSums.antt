-- Sums and differences of signed words that stay far within 64 bits.
use Rattle.std.proofs.Common.{◌≡◌, ℕ, ◌≤◌, ℤ, ◌+ℤ◌, ◌-ℤ◌, arith, w64, to_z, of_z}
use Rattle.std.proofs.lemmas.Int.{ints}
use Rattle.mix_num.specs.Ranges.{Lies}

pub lies-wider : (m k : ℕ) (x : ℤ) → m ≤ k → Lies m x → Lies k x
lies-wider m k x h l = (omega (arith, ints, l.0, h), omega (arith, ints, l.1, h))

pub word-same : (x : ℤ) → Lies 4000000000000 x → to_z w64 (of_z w64 x) ≡ x
word-same x l = omega (arith, ints, l.0, l.1)

pub word-sum : (x y : ℤ) → Lies 4000000000000 x → Lies 4000000000000 y → to_z w64 (of_z w64 (to_z w64 (of_z w64 x) +ℤ to_z w64 (of_z w64 y))) ≡ x +ℤ y
word-sum x y l h = omega (arith, ints, l.0, l.1, h.0, h.1)

pub word-difference : (x y : ℤ) → Lies 4000000000000 x → Lies 4000000000000 y → to_z w64 (of_z w64 (to_z w64 (of_z w64 x) -ℤ to_z w64 (of_z w64 y))) ≡ x -ℤ y
word-difference x y l h = omega (arith, ints, l.0, l.1, h.0, h.1)

-- a number less another lies near it
pub near-difference : (old now s new : ℤ) → new ≡ now -ℤ s → now ≡ old → Lies 140000000 s → Lies 140000000 (old -ℤ new)
near-difference old now s new e f l = (omega (arith, ints, e, f, l.0, l.1), omega (arith, ints, e, f, l.0, l.1))
