-- Grids: the points with one candidate for each coordinate.
use Rattle.std.specs.Prelude.{◌≡◌, ◌↔◌, ℕ, suc, ◌*◌, ◌/◌, ◌%◌, ◌<◌, ◌≤◌, List, [], ◌∷◌, ℤ, pos, ◌<ℤ◌, get_or, length, All, AllPairs, Contains}
use Rattle.mix_bids.specs.Bids.{Book}
use Rattle.mix_facets.specs.Levels.{Level, bids_of}
use Rattle.mix_bids.specs.Levels.{other}
use Rattle.mix_facets.specs.Points.{IsCoordinate, IsNullCoordinate}
use Rattle.mix_facets.specs.Candidates.{candidates}

-- the number of the points of a grid
abbrev pub size_of : List (List ℤ) → ℕ
size_of [] = 1
size_of (us ∷ grid) = length us * size_of grid

-- the point of a number below the size: its digits, the first coordinate's as the lowest, each to the base of the candidates' count
abbrev pub point_at : List (List ℤ) → ℕ → List ℤ
point_at [] k = []
point_at (us ∷ grid) k = get_or us (k % length us) (pos 0) ∷ point_at grid (k / length us)

-- each number is above those before it
abbrev pub IsRising : List ℤ → Type 0
IsRising us = AllPairs (λ u v. u <ℤ v) us

-- a point of a grid: each coordinate is one of its candidates
pub record IsOn (grid : List (List ℤ)) (point : List ℤ) : Type 0 where
  pub size : length point ≡ length grid
  pub each : (k : ℕ) → k < length grid → Contains (get_or grid k []) (get_or point k (pos 0))

-- the candidates of the choice c at a level of a list, each once, in rising order
pub record AreCandidates (book : Book) (level : Level) (c : ℕ) (us : List ℤ) : Type 0 where
  pub members : (u : ℤ) → Contains us u ↔ Contains (candidates level.first c (bids_of book level)) u
  pub rising : IsRising us
  pub few : length us ≤ 401
  pub near : All IsCoordinate us
  pub null : c ≡ 0 → All IsNullCoordinate us

-- the grid of a level of a list: the candidates of each other choice, in rising order
pub record IsGridOf (book : Book) (level : Level) (grid : List (List ℤ)) : Type 0 where
  pub size : suc (length grid) ≡ level.goods
  pub each : (k : ℕ) → k < length grid → AreCandidates book level (other level.first level.second k) (get_or grid k [])
