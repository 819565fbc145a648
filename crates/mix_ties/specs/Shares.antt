-- Sharing a supply among rows of tables, and the tie rule.
use Rattle.std.specs.Prelude.{◌≡◌, ℕ, suc, ◌^◌, ◌<◌, ℤ, ◌≤ℤ◌, List, [], ◌∷◌, ◌++◌, length, get_or, take}
use Rattle.mix_num.specs.Sums.{sum_in}
use Rattle.mix_num.specs.Tables.{IsProper, IsLexAtMost}
use Rattle.mix_num.specs.Shares.{AreShares, sum_at, supply_null}

-- what contracts see of the tables: the number of goods, and a table for each member
pub record TableRows : Type 0 where
  pub goods : ℕ
  pub rows : List (List ℤ)

-- the tie rule: in order, each bundle is the lexicographically greatest that extends, after those before it, to shares of all rows
abbrev pub KeepTieRule : ℕ → List (List ℤ) → List (List ℤ) → List ℤ → Type 0
KeepTieRule n rows bundles supply =
    (k : ℕ) (bundle : List ℤ) (later : List (List ℤ)) → k < length rows
    → AreShares n rows (take k bundles ++ bundle ∷ later) supply → IsLexAtMost bundle (get_or bundles k [])

-- every row is proper
abbrev pub AreProper : ℕ → List (List ℤ) → Type 0
AreProper n rows = (k : ℕ) → k < length rows → IsProper n (get_or rows k [])

-- the supply lies in the sum of the rows: no set has more of it than the rows' numbers allow
pub record LiesInSum (n : ℕ) (rows : List (List ℤ)) (supply : List ℤ) : Type 0 where
  pub size : length supply ≡ n
  pub within : (set : ℕ) → set < 2 ^ suc n → sum_in (supply_null n rows supply ∷ supply) set ≤ℤ sum_at rows set
