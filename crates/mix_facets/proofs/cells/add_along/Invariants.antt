use Rattle.std.proofs.Common.{◌≡◌, ℕ, ◌-◌, ◌*◌, ◌<◌, ◌≤◌, pos, get_or, length}
use Rattle.mix_num.specs.Vectors.{Vector}
use Rattle.mix_facets.specs.Cells.{AreSums}
use Rattle.mix_facets.proofs.cells.add_along.Given as goal

abbrev pub invariant-loop-start : goal.invariant-loop-start
invariant-loop-start l = record {
  blocks : (j : ℕ) × (l.start ≡ j * (l.stride * l.count));
  sums : (sums : Vector) → AreSums l.stride l.count l.fn.cells sums → (k : ℕ) → k < l.start → get_or l.cells k (pos 0) ≡ sums k;
  rest : (k : ℕ) → l.start ≤ k → get_or l.cells k (pos 0) ≡ get_or l.fn.cells k (pos 0);
  size : length l.cells ≡ length l.fn.cells;
  within : l.start ≤ length l.fn.cells;
}

abbrev pub decreases-loop-start : goal.decreases-loop-start
decreases-loop-start l = length l.initial.cells - l.start
