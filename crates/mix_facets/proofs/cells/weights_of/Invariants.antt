use Rattle.std.proofs.Common.{◌≡◌, ℕ, ◌<◌, pos, get_or, length, take}
use Rattle.mix_facets.specs.Levels.{bids_of}
use Rattle.mix_facets.specs.Grids.{size_of}
use Rattle.mix_facets.specs.Cells.{weight_held}
use Rattle.mix_facets.proofs.cells.weights_of.Given as goal

abbrev pub invariant-loop-numbers : goal.invariant-loop-numbers
invariant-loop-numbers l = record {
  stride : l.stride ≡ size_of (take l.numbers-index l.grid);
  size : length l.cells.items ≡ size_of l.grid;
  held : (k : ℕ) → k < size_of l.grid → get_or l.cells.items k (pos 0) ≡ weight_held l.level.first l.level.second l.numbers-index l.grid (bids_of l.list l.level) k;
}
