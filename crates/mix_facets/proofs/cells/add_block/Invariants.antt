use Rattle.std.proofs.Common.{◌≡◌, ℕ, ◌<◌, ◌≤◌, pos, get_or, length}
use Rattle.mix_num.specs.Vectors.{Vector}
use Rattle.mix_facets.specs.Cells.{AreBlockSums}
use Rattle.mix_facets.proofs.cells.add_block.Given as goal

abbrev pub invariant-loop-place : goal.invariant-loop-place
invariant-loop-place l = record {
  sums : (sums : Vector) → AreBlockSums l.stride l.start l.end l.fn.cells sums → (k : ℕ) → l.start ≤ k → k < l.place → get_or l.cells k (pos 0) ≡ sums k;
  before : (k : ℕ) → k < l.start → get_or l.cells k (pos 0) ≡ get_or l.fn.cells k (pos 0);
  rest : (k : ℕ) → l.place ≤ k → get_or l.cells k (pos 0) ≡ get_or l.fn.cells k (pos 0);
  size : length l.cells ≡ length l.fn.cells;
}
