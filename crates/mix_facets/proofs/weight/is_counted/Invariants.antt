use Rattle.std.proofs.Common.{◌≡◌, true}
use Rattle.mix_bids.specs.Offers.{all_to}
use Rattle.mix_facets.specs.Points.{coordinate}
use Rattle.mix_facets.specs.Counted.{stays_below}
use Rattle.mix_facets.proofs.weight.is_counted.Given as goal

abbrev pub invariant-loop-choice : goal.invariant-loop-choice
invariant-loop-choice l = all_to l.choice (stays_below l.level.first l.level.second (coordinate l.level.first l.level.second l.point.items) l.bid) ≡ true
