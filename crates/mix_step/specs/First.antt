-- The first of the sets of goods with the least number in a table, in the order of the sets' numbers.
use Rattle.std.specs.Prelude.{◌≡◌, ℕ, ◌+◌, ◌*◌, ◌^◌, ◌<◌, false, ℤ, ◌≤ℤ◌, ◌<ℤ◌}
use Rattle.mix_num.specs.Vectors.{members}

-- of the sets of goods with the numbers 2, 4, .. below 2 * i and the empty set, this is the first with the least slope
pub record IsFirst (n : ℕ) (slope_at : ℕ → ℤ) (i : ℕ) (set : ℕ) (slope : ℤ) : Type 0 where
  pub small : set < 2 ^ (n + 1)
  pub goods : members set 0 ≡ false
  pub is : slope ≡ slope_at set
  pub least : (k : ℕ) → k < i → slope ≤ℤ slope_at (2 * k)
  pub first : (k : ℕ) → 2 * k < set → slope <ℤ slope_at (2 * k)
