use Rattle.std.proofs.Common.{◌≡◌, map, take}
use Rattle.mix_facets.specs.Levels.{level_at}
use Rattle.mix_facets.proofs.levels.levels_of.Given as goal

abbrev pub invariant-loop-place : goal.invariant-loop-place
invariant-loop-place l = l.levels.items ≡ map (level_at l.list l.first l.second) (take l.place l.differences-inside.numbers.items)
