use Rattle.std.proofs.Common.{◌≡◌, ℕ, ◌*◌, ◌<◌, pos, neg_ℤ, ◌+ℤ◌, ◌≤ℤ◌, get_or, length, drop}
use Rattle.mix_facets.specs.Levels.{bids_of}
use Rattle.mix_facets.specs.Grids.{size_of}
use Rattle.mix_facets.specs.Cells.{weight_held}
use Rattle.mix_facets.proofs.cells.first_weights.Given as goal

abbrev pub invariant-loop-number : goal.invariant-loop-number
invariant-loop-number l = record {
  size : length l.cells.items ≡ size_of l.grid;
  so_far : (k : ℕ) → k < size_of l.grid → get_or l.cells.items k (pos 0) +ℤ weight_held l.level.first l.level.second 0 l.grid (drop l.number (bids_of l.list l.level)) k ≡ weight_held l.level.first l.level.second 0 l.grid (bids_of l.list l.level) k;
  low : (k : ℕ) → k < size_of l.grid → neg_ℤ (pos (10000 * l.number)) ≤ℤ get_or l.cells.items k (pos 0);
  high : (k : ℕ) → k < size_of l.grid → get_or l.cells.items k (pos 0) ≤ℤ pos (10000 * l.number);
}
