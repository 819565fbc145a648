use Rattle.std.proofs.Common.{◌≡◌, ◌<◌, ◌++◌, drop, length}
use Rattle.mix_facets.specs.Grids.{point_at, size_of}
use Rattle.mix_facets.proofs.grid.Grid.point.Given as goal

abbrev pub invariant-loop-numbers : goal.invariant-loop-numbers
invariant-loop-numbers l = record {
  so_far : l.point.items ++ point_at (drop l.numbers-index l.numbers-items) l.rest ≡ point_at l.numbers-items l.number;
  below : l.rest < size_of (drop l.numbers-index l.numbers-items);
  size : length l.point.items ≡ l.numbers-index;
}
