-- What a member demands at prices, and its table there.
use Rattle.std.specs.Prelude.{◌≡◌, ℕ, suc, ◌^◌, ◌<◌, ℤ, ◌+ℤ◌, ◌≤ℤ◌, List, length, map}
use Rattle.std.specs.List.{range_with_len}
use Rattle.mix_num.specs.Vectors.{Vector, members, with_null}
use Rattle.mix_num.specs.Sums.{dot_of}
use Rattle.mix_num.specs.Tables.{number_of}
use Rattle.mix_law.specs.Members.{rho}

-- the bundle is demanded at the prices p, by the function f of the prices of n goods: at no prices q is f plus the bundle's cost less
abbrev pub IsDemanded : ℕ → (Vector → ℤ) → List ℤ → List ℤ → Type 0
IsDemanded n f p bundle = (q : List ℤ) → length q ≡ n → (f (with_null p) +ℤ dot_of p bundle) ≤ℤ (f (with_null q) +ℤ dot_of q bundle)

-- the table of the function f at the prices p: its number of a set is by how much f rises when the set's prices fall by one
pub record IsTableOf (n : ℕ) (f : Vector → ℤ) (p table : List ℤ) : Type 0 where
  pub size : length table ≡ 2 ^ suc n
  pub numbers : (set : ℕ) → set < 2 ^ suc n → number_of table set ≡ rho f (with_null p) (members set)

-- that table as one list, set by set
abbrev pub table_of : ℕ → (Vector → ℤ) → List ℤ → List ℤ
table_of n f p = map (λ set. rho f (with_null p) (members set)) (range_with_len 0 (2 ^ suc n))
