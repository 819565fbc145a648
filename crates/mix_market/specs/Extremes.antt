-- The least and the greatest of the members' numbers.
use Rattle.std.specs.Prelude.{List, [], ◌∷◌, ℤ, pos, neg_ℤ}
use Rattle.std.specs.Int.{int_min, int_max}

-- the least of 8,000,000 and the members' numbers
abbrev pub least_of : {D : Type 0} → (D → ℤ) → List D → ℤ
least_of f [] = pos 8000000
least_of f (member ∷ members) = int_min (f member) (least_of f members)

-- the greatest of -1,000,000 and the members' numbers
abbrev pub greatest_of : {D : Type 0} → (D → ℤ) → List D → ℤ
greatest_of f [] = neg_ℤ (pos 1000000)
greatest_of f (member ∷ members) = int_max (f member) (greatest_of f members)
