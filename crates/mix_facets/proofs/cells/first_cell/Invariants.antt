use Rattle.std.proofs.Common.{◌≤◌, length, drop}
use Rattle.mix_facets.specs.Cells.{leads}
use Rattle.mix_facets.proofs.FirstCells.{IsFirstCell}
use Rattle.mix_facets.proofs.cells.first_cell.Given as goal

abbrev pub invariant-loop-coordinate : goal.invariant-loop-coordinate
invariant-loop-coordinate l = record {
  within : l.coordinate ≤ length l.grid;
  cell : IsFirstCell l.coordinate (drop l.coordinate l.grid) (leads l.level.first l.level.second l.bid) l.cell;
}

abbrev pub decreases-loop-coordinate : goal.decreases-loop-coordinate
decreases-loop-coordinate l = l.coordinate
