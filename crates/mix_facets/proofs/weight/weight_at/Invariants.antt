use Rattle.std.proofs.Common.{◌≡◌, ◌*◌, drop, pos, neg_ℤ, ◌+ℤ◌, ◌≤ℤ◌}
use Rattle.mix_facets.specs.Levels.{bids_of}
use Rattle.mix_facets.specs.Points.{coordinate}
use Rattle.mix_facets.specs.Counted.{weight_counted}
use Rattle.mix_facets.proofs.weight.weight_at.Given as goal

abbrev pub invariant-loop-number : goal.invariant-loop-number
invariant-loop-number l = record {
  so_far : l.weight +ℤ weight_counted l.level.goods l.level.first l.level.second (drop l.number (bids_of l.list l.level)) (coordinate l.level.first l.level.second l.point.items) ≡ weight_counted l.level.goods l.level.first l.level.second (bids_of l.list l.level) (coordinate l.level.first l.level.second l.point.items);
  low : neg_ℤ (pos (10000 * l.number)) ≤ℤ l.weight;
  high : l.weight ≤ℤ pos (10000 * l.number);
}
