-- Sharing row by row: what is left of the supply, and the rows that share it. For proofs; no public clause rests on it.
use Rattle.std.specs.Prelude.{◌≡◌, ℕ, zero, suc, ◌^◌, ◌<◌, ◌≤◌, ℤ, pos, ◌-ℤ◌, ◌≤ℤ◌, List, [], ◌∷◌, length, get_or}
use Rattle.mix_num.specs.Sums.{sum_in}
use Rattle.mix_num.specs.Tables.{Fits, IsProper, IsLexAtMost, number_of}
use Rattle.mix_num.specs.Sellers.{IsAmount}
use Rattle.mix_num.specs.Shares.{sum_at, supply_null}

-- what is left of a supply once a bundle is taken
abbrev pub subtracted : List ℤ → List ℤ → List ℤ
subtracted [] ys = []
subtracted (x ∷ xs) [] = []
subtracted (x ∷ xs) (y ∷ ys) = (x -ℤ y) ∷ subtracted xs ys

-- nothing of each of n goods
abbrev pub nothing : ℕ → List ℤ
nothing zero = []
nothing (suc n) = pos 0 ∷ nothing n

-- row by row, the bundles fit and leave nothing of the supply
abbrev pub ShareInTurn : ℕ → List (List ℤ) → List (List ℤ) → List ℤ → Type 0
ShareInTurn n [] [] supply = supply ≡ nothing n
ShareInTurn n [] (x ∷ xs) supply = ⊥
ShareInTurn n (r ∷ rs) [] supply = ⊥
ShareInTurn n (r ∷ rs) (x ∷ xs) supply = Fits n r x × ShareInTurn n rs xs (subtracted supply x)

-- row by row, the bundle is the greatest that leaves what the later rows can share
abbrev pub AreGreatestInTurn : ℕ → List (List ℤ) → List (List ℤ) → List ℤ → Type 0
AreGreatestInTurn n [] xs supply = Unit {0}
AreGreatestInTurn n (r ∷ rs) [] supply = Unit {0}
AreGreatestInTurn n (r ∷ rs) (x ∷ xs) supply =
    ((z : List ℤ) (zs : List (List ℤ)) → Fits n r z → ShareInTurn n rs zs (subtracted supply z) → IsLexAtMost z x)
    × AreGreatestInTurn n rs xs (subtracted supply x)

-- every row is proper
abbrev pub ProperInTurn : ℕ → List (List ℤ) → Type 0
ProperInTurn n [] = Unit {0}
ProperInTurn n (r ∷ rs) = IsProper n r × ProperInTurn n rs

-- before a row's turn: what is left for the rows rs, and the sum of these rows
pub record IsTurn (n : ℕ) (rs : List (List ℤ)) (later left : List ℤ) : Type 0 where
  pub size : length left ≡ n
  pub few : length rs ≤ 257
  pub proper : ProperInTurn n rs
  pub lies : (set : ℕ) → set < 2 ^ suc n → sum_in (supply_null n rs left ∷ left) set ≤ℤ sum_at rs set
  pub later_is : (set : ℕ) → set < 2 ^ suc n → number_of later set ≡ sum_at rs set
  pub range : (i : ℕ) → i < n → IsAmount (get_or left i (pos 0))
