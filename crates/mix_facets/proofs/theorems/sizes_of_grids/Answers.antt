use Rattle.mix_facets.proofs.GridSizes.{grid_within, sizes_are_cells}
use Rattle.mix_facets.proofs.theorems.sizes_of_grids.Goals as goal

pub returns-clause-sum : goal.returns-clause-sum
returns-clause-sum c levels grids are = sizes_are_cells _ levels grids are

pub returns-clause-each : goal.returns-clause-each
returns-clause-each c level grid is of = grid_within _ level grid is of
