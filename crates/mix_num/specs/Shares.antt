-- Sharing a supply among rows of tables, the seller's last.
use Rattle.std.specs.Prelude.{◌≡◌, ℕ, ◌<◌, ℤ, pos, ◌+ℤ◌, ◌-ℤ◌, List, [], ◌∷◌, length, get_or}
use Rattle.mix_num.specs.Sums.{total}
use Rattle.mix_num.specs.Tables.{Fits, whole}

-- the sum of the numbers that stand at one place of each list
abbrev pub sum_at : List (List ℤ) → ℕ → ℤ
sum_at [] k = pos 0
sum_at (xs ∷ lists) k = get_or xs k (pos 0) +ℤ sum_at lists k

-- the null share of a supply: the rows' numbers of the whole set less the supply of all goods
abbrev pub supply_null : ℕ → List (List ℤ) → List ℤ → ℤ
supply_null n rows supply = sum_at rows (whole n) -ℤ total supply

-- a bundle for each row, which fits it, and in each good they add up to the supply
pub record AreShares (n : ℕ) (rows bundles : List (List ℤ)) (supply : List ℤ) : Type 0 where
  pub count : length bundles ≡ length rows
  pub fit : (k : ℕ) → k < length rows → Fits n (get_or rows k []) (get_or bundles k [])
  pub sum : (i : ℕ) → i < n → sum_at bundles i ≡ get_or supply i (pos 0)
