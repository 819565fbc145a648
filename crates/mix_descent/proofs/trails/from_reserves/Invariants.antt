use Rattle.mix_num.specs.Vectors.{with_null}
use Rattle.mix_num.specs.Ranges.{AreWithin}
use Rattle.mix_market.specs.Markets.{goods_of, lyapunov_of, reserves_of}
use Rattle.mix_descent.specs.Trails.{AreLongSteps}
use Rattle.mix_market.specs.Steepest.{AreSlopes}
use Rattle.mix_step.proofs.Climbs.{IsBestBelow}
use Rattle.mix_step.proofs.Rooms.{room}
use Rattle.mix_descent.proofs.trails.from_reserves.Given as goal

abbrev pub invariant-loop-slopes : goal.invariant-loop-slopes
invariant-loop-slopes g l = record {
  range : AreWithin 1000000 (goods_of l.market) l.prices.items;
  slopes : AreSlopes (goods_of l.market) (lyapunov_of l.market) (with_null l.prices.items) l.slopes;
  best : IsBestBelow (goods_of l.market) (lyapunov_of l.market) (with_null (reserves_of l.market)) (with_null l.prices.items);
  way : AreLongSteps (goods_of l.market) (lyapunov_of l.market) (with_null (reserves_of l.market)) l.steps (with_null l.prices.items);
}

abbrev pub decreases-loop-slopes : goal.decreases-loop-slopes
decreases-loop-slopes g l = room (goods_of l.market) (with_null l.prices.items)
