-- The tie order of an auction.
use Rattle.std.specs.Prelude.{◌≡◌, ◌==◌, ◌<◌, Bool, false, ℕ, List, length, slice_index_or}
use Rattle.std.specs.List.{list_any}
use Rattle.mix_num.specs.Orders.{place_at}

-- an order of m bidders: their places 0 to m - 1, each once
pub record IsTieOrder (m : ℕ) (order : List ℕ) : Type 0 where
  pub size : length order ≡ m
  pub within : (i : ℕ) → i < m → place_at order i < m
  pub once : (i j : ℕ) → i < m → j < m → place_at order i ≡ place_at order j → i ≡ j

-- whether a bidder's place is among these
abbrev pub is_served : ℕ → List ℕ → Bool
is_served k order = list_any (λ j. j == k) order

-- a mark for each of m bidders, which says whether it is among these
pub record AreMarks (m : ℕ) (order : List ℕ) (marks : List Bool) : Type 0 where
  pub size : length marks ≡ m
  pub each : (k : ℕ) → k < m → slice_index_or marks k false ≡ is_served k order
