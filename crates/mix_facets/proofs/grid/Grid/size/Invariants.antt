use Rattle.std.proofs.Common.{◌≡◌, ◌*◌, ◌^◌, ◌≤◌, drop}
use Rattle.mix_facets.specs.Grids.{size_of}
use Rattle.mix_facets.proofs.grid.Grid.size.Given as goal

abbrev pub invariant-loop-numbers : goal.invariant-loop-numbers
invariant-loop-numbers l = record {
  so_far : l.size * size_of (drop l.numbers-index l.numbers-items) ≡ size_of l.numbers-items;
  range : l.size ≤ 401 ^ l.numbers-index;
}
