-- How far one vector lies above another.
use Rattle.std.specs.Prelude.{ℕ, zero, suc, ◌≤◌, ℤ, ◌-ℤ◌, ◌<ℤ◌}
use Rattle.std.specs.Int.{int_max}
use Rattle.mix_num.specs.Vectors.{Vector}

-- the greatest entry of x less y, over the choices 0 to n
unfoldable pub greatest_gap : ℕ → Vector → Vector → ℤ
greatest_gap zero x y = x 0 -ℤ y 0
greatest_gap (suc n) x y = int_max (greatest_gap n x y) (x (suc n) -ℤ y (suc n))

-- some entry of x is above that of y, over the choices 0 to n
abbrev pub IsAboveSomewhere : ℕ → Vector → Vector → Type 0
IsAboveSomewhere n x y = (k : ℕ) × (k ≤ n) × (y k <ℤ x k)
