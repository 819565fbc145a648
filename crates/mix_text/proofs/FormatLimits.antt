-- What holds of the limits of every format, and what a count that stops past a limit tells of it.
use Rattle.std.proofs.Common.{◌≡◌, ◌≤◌, ◌==◌, false, inl, inr, ℕ, refl, arith, Option, Some, None, min, nat_lt}
use Rattle.std.proofs.lemmas.Bool.{cases_Bool}
use Rattle.std.proofs.lemmas.Bool.Decides.{nat_tests}
use Rattle.mix_text.specs.Formats.{AreLimits, is_past, limits_of, mix_one, mix_two}
use Rattle.mix_text.specs.declared.formats.Limits.{Limits}

-- ---- the formats

one_is : AreLimits mix_one
one_is = record { goods = omega arith; bidders = omega arith; bids = omega arith; cells = λ most e. cc e }

two_is : AreLimits mix_two
two_is = record { goods = omega arith; bidders = omega arith; bids = omega arith; cells = λ most e. (let same : 4194304 ≡ most = cc e in omega arith) }

pub limits_are : (format : ℕ) → AreLimits (limits_of format)
unfolding limits_of
limits_are format = elim (cases_Bool (format == 1)) [
  | inl t ↦ rw t one_is
  | inr f ↦ rw f two_is
]

-- ---- counts

-- a count that stops past the limit
pub past_cells : (limits : Limits) (most count : ℕ) → AreLimits limits → limits.cells ≡ Some most → nat_lt most (min count 4194305) ≡ is_past limits.cells count
past_cells limits most count are e = let few = are.cells most e in rw e (stopped most count few)
  where
    stopped : (most count : ℕ) → most ≤ 4194304 → nat_lt most (min count 4194305) ≡ nat_lt most count
    stopped most count h = grind (arith, nat_tests)

-- nothing is past no count
pub none_past : (limit : Option ℕ) → is_past limit 0 ≡ false
none_past None = refl
none_past (Some most) = grind (arith, nat_tests)

-- what is not past a greater count is not past a smaller one
pub fewer_past : (limit : Option ℕ) (few many : ℕ) → few ≤ many → is_past limit many ≡ false → is_past limit few ≡ false
fewer_past None few many h e = refl
fewer_past (Some most) few many h e = grind (arith, nat_tests)
