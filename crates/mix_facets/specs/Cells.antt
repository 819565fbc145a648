-- Cells: a number for each point of a grid, at the point's number. For proofs; no public clause rests on it.
use Rattle.std.specs.Prelude.{◌≡◌, ◌≢◌, ℕ, zero, suc, ◌+◌, ◌-◌, ◌/◌, ◌%◌, ◌<◌, ◌≤◌, Bool, true, false, cond, eqb, ltb, List, [], ◌∷◌, ℤ, pos, ◌+ℤ◌, Option, Some, None, int_lt, get_or, length}
use Rattle.mix_num.specs.Vectors.{Vector}
use Rattle.mix_bids.specs.Bids.{weight_where}
use Rattle.mix_bids.specs.declared.bid.Bid.{Bid}
use Rattle.mix_bids.specs.Leads.{lead_of}
use Rattle.mix_bids.specs.Levels.{other}

-- the place of the first number above v, or how many there are
abbrev pub first_above : List ℤ → ℤ → ℕ
first_above [] v = 0
first_above (u ∷ us) v = cond (int_lt v u) 0 (suc (first_above us v))

-- the place of the first candidate above a lead, or 0 where the choice isn't offered
abbrev pub first_place : List ℤ → Option ℤ → ℕ
first_place us None = 0
first_place us (Some v) = first_above us v

-- a bid's leads by coordinate, at a level of i and j
abbrev pub leads : ℕ → ℕ → Bid → ℕ → Option ℤ
leads i j b = λ e. lead_of b (other i j e) i

-- whether the cell k holds a bid with the leads l, once the first c of the coordinates from e on are added up: in those its place is at or past the bid's first place, in the others it is that place
abbrev pub holds : ℕ → ℕ → List (List ℤ) → (ℕ → Option ℤ) → ℕ → Bool
holds c e [] l k = true
holds zero e (us ∷ grid) l k = cond (eqb (first_place us (l e)) (k % length us)) (holds zero (suc e) grid l (k / length us)) false
holds (suc c) e (us ∷ grid) l k = cond (ltb (first_place us (l e)) (suc (k % length us))) (holds c (suc e) grid l (k / length us)) false

-- the weight of the bids that a cell holds, once the first c coordinates are added up
abbrev pub weight_held : ℕ → ℕ → ℕ → List (List ℤ) → List Bid → Vector
weight_held i j c grid bs = λ k. weight_where (λ b. holds c 0 grid (leads i j b) k) bs

-- sums along a coordinate of m places whose neighbours lie s cells apart: a cell at the first place keeps its number, and each later one adds the sum at the place before it
pub record AreSums (s m : ℕ) (cells : List ℤ) (sums : Vector) : Type 0 where
  pub first : (k : ℕ) → k < length cells → k / s % m ≡ 0 → sums k ≡ get_or cells k (pos 0)
  pub later : (k : ℕ) → k < length cells → k / s % m ≢ 0 → sums k ≡ get_or cells k (pos 0) +ℤ sums (k - s)

-- the same within the cells from start to end, whose first s are at the first place
pub record AreBlockSums (s start end : ℕ) (cells : List ℤ) (sums : Vector) : Type 0 where
  pub first : (k : ℕ) → start ≤ k → k < start + s → sums k ≡ get_or cells k (pos 0)
  pub later : (k : ℕ) → start + s ≤ k → k < end → sums k ≡ get_or cells k (pos 0) +ℤ sums (k - s)
