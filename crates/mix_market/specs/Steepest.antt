-- By how much a function rises along sets of goods whose prices rise or fall by one, and the set along which it falls most when they rise.
use Rattle.std.specs.Prelude.{◌≡◌, ℕ, ◌≤◌, true, false, List, ℤ, ◌-ℤ◌, ◌≤ℤ◌}
use Rattle.mix_num.specs.Vectors.{Vector, Choices, members, minus, plus}
use Rattle.mix_num.specs.Moves.{IsSetOfGoods}
use Rattle.mix_num.specs.Tables.{number_of}

-- a set of goods alone: the null choice isn't in it
abbrev pub IsGoods : Choices → Type 0
IsGoods s = s 0 ≡ false

-- a set within another, over the choices 0 to n
abbrev pub IsWithin : ℕ → Choices → Choices → Type 0
IsWithin n s t = (k : ℕ) → k ≤ n → s k ≡ true → t k ≡ true

-- by how much l rises when each price of the set rises by one
abbrev pub slope_of : (Vector → ℤ) → Vector → Choices → ℤ
slope_of l p s = l (plus p s) -ℤ l p

-- by how much l rises when each price of the set falls by one
abbrev pub slope_down : (Vector → ℤ) → Vector → Choices → ℤ
slope_down l p s = l (minus p s) -ℤ l p

-- a table whose number of each set of goods is the slope along the set
abbrev pub AreSlopes : ℕ → (Vector → ℤ) → Vector → List ℤ → Type 0
AreSlopes n l p table = (set : ℕ) → IsSetOfGoods n set → number_of table set ≡ slope_of l p (members set)

-- a table whose number of each set of goods is the slope where the set falls
abbrev pub AreSlopesDown : ℕ → (Vector → ℤ) → Vector → List ℤ → Type 0
AreSlopesDown n l p table = (set : ℕ) → IsSetOfGoods n set → number_of table set ≡ slope_down l p (members set)

-- of all sets of goods, the empty one among them, s has the least slope, and lies within each other that does
pub record IsMinimalSteepest (n : ℕ) (l : Vector → ℤ) (p : Vector) (s : Choices) : Type 0 where
  pub goods : IsGoods s
  pub steepest : (t : Choices) → IsGoods t → slope_of l p s ≤ℤ slope_of l p t
  pub minimal : (t : Choices) → IsGoods t → slope_of l p t ≡ slope_of l p s → IsWithin n s t
