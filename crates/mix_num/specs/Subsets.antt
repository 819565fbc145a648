-- Sums over the subsets of a set, in a table with a number for each set of the choices 0 to 8.
use Rattle.std.specs.Prelude.{◌≡◌, ℕ, zero, suc, Bool, true, false, cond, eqb, List, ℤ, pos, ◌-ℤ◌}
use Rattle.std.specs.Int.{int_max}
use Rattle.mix_num.specs.Vectors.{Choices, members, sum_to}
use Rattle.mix_num.specs.Tables.{number_of}

-- whether each choice below m passes a test
abbrev pub all_below : ℕ → Choices → Bool
all_below zero p = true
all_below (suc m) p = cond (p m) (all_below m p) false

-- whether the first set lies in the second
unfoldable pub lies_in : ℕ → ℕ → Bool
lies_in t s = all_below 9 (λ k. cond (members t k) (members s k) true)

-- the sum of the numbers of the subsets of a set
unfoldable pub subset_sum : List ℤ → ℕ → ℤ
subset_sum table s = sum_to 512 (λ t. cond (lies_in t s) (number_of table t) (pos 0))

-- the sum of the sizes of all numbers
unfoldable pub sizes : List ℤ → ℤ
sizes table = sum_to 512 (λ t. int_max (number_of table t) (pos 0 -ℤ number_of table t))

-- rest is the set without the choice
abbrev pub IsWithout : ℕ → ℕ → ℕ → Type 0
IsWithout choice set rest = (k : ℕ) → members rest k ≡ cond (eqb k choice) false (members set k)
