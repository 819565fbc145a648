use Rattle.mix_num.specs.Vectors.{with_null}
use Rattle.mix_num.specs.Ranges.{AreWithin}
use Rattle.mix_market.specs.Markets.{goods_of, lyapunov_of}
use Rattle.mix_market.specs.Steepest.{AreSlopes}
use Rattle.mix_step.proofs.Climbs.{IsBestBelow}
use Rattle.mix_step.proofs.Rooms.{room}
use Rattle.mix_descent.proofs.TrailFacts.{HasClimbed}
use Rattle.mix_descent.proofs.descent.descend.Given as goal

abbrev pub invariant-loop-slopes : goal.invariant-loop-slopes
invariant-loop-slopes g l = record {
  range : AreWithin 1000000 (goods_of l.market) l.prices.items;
  slopes : AreSlopes (goods_of l.market) (lyapunov_of l.market) (with_null l.prices.items) l.slopes;
  best : IsBestBelow (goods_of l.market) (lyapunov_of l.market) (with_null l.start.items) (with_null l.prices.items);
  climbed : HasClimbed (goods_of l.market) (lyapunov_of l.market) (with_null l.start.items) (with_null l.prices.items) l.initial.steps l.steps;
}

abbrev pub decreases-loop-slopes : goal.decreases-loop-slopes
decreases-loop-slopes g l = room (goods_of l.market) (with_null l.prices.items)
