use Rattle.std.proofs.Common.{◌≡◌, ◌<◌, ℕ, [], length, get_or}
use Rattle.mix_bids.specs.Levels.{other}
use Rattle.mix_facets.specs.Grids.{AreCandidates}
use Rattle.mix_facets.proofs.grid.grid_of.Given as goal

abbrev pub invariant-loop-coordinate : goal.invariant-loop-coordinate
invariant-loop-coordinate l = record {
  size : length l.candidates.items ≡ l.coordinate;
  each : (k : ℕ) → k < l.coordinate → AreCandidates l.list l.level (other l.level.first l.level.second k) (get_or l.candidates.items k []);
}
