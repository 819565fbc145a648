-- The greatest clearing prices under a ceiling.
use Rattle.std.specs.Prelude.{ℕ, ◌<◌, ℤ, pos, ◌≤ℤ◌, List, length, get_or}
use Rattle.mix_num.specs.Vectors.{Vector}
use Rattle.mix_law.specs.Clearings.{CanClear}

-- each of n prices is at or below the other
abbrev pub AreAtMost : ℕ → List ℤ → List ℤ → Type 0
AreAtMost n prices others = (i : ℕ) → i < n → get_or prices i (pos 0) ≤ℤ get_or others i (pos 0)

-- prices at or below the ceiling at which some bundles and returns clear
abbrev pub CanClearUnder : List (Vector → ℤ) → List ℤ → List ℤ → List ℤ → List ℤ → Type 0
CanClearUnder utilities supply reserve ceiling prices = CanClear utilities supply reserve prices × AreAtMost (length supply) prices ceiling

-- the greatest of these: no price is below that of any others
pub record AreGreatestClearing (utilities : List (Vector → ℤ)) (supply reserve ceiling prices : List ℤ) : Type 0 where
  pub clear : CanClearUnder utilities supply reserve ceiling prices
  pub greatest : (others : List ℤ) → CanClearUnder utilities supply reserve ceiling others → AreAtMost (length supply) others prices
