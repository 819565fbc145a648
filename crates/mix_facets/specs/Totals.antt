-- All grids of a list together.
use Rattle.std.specs.Prelude.{◌≡◌, ℕ, suc, ◌<◌, ◌≤◌, List, [], ℤ, get_or, length}
use Rattle.std.specs.List.{sum_by}
use Rattle.mix_bids.specs.Bids.{Book}
use Rattle.mix_bids.specs.Cells.{sum_below}
use Rattle.mix_facets.specs.Levels.{Level, AreLevelsOf}
use Rattle.mix_facets.specs.Grids.{size_of, IsGridOf}

-- for each pair of choices the levels of a list, and for each of them its grid
pub record AreGridsOf (book : Book) (levels : ℕ → ℕ → List Level) (grids : ℕ → ℕ → List (List (List ℤ))) : Type 0 where
  pub all : (i j : ℕ) → i < j → j ≤ book.goods → AreLevelsOf book i j (levels i j)
  pub size : (i j : ℕ) → i < j → j ≤ book.goods → length (grids i j) ≡ length (levels i j)
  pub each : (i j : ℕ) → i < j → j ≤ book.goods → (k : ℕ) (level : Level) → k < length (levels i j) → level ≡ get_or (levels i j) k level → IsGridOf book level (get_or (grids i j) k [])

-- the sum of the sizes of all grids over n goods
unfoldable pub total_size : ℕ → (ℕ → ℕ → List (List (List ℤ))) → ℕ
total_size n grids = sum_below (suc n) (λ j. sum_below j (λ i. sum_by size_of (grids i j)))
