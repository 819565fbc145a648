use Rattle.std.proofs.Common.{◌*◌, ◌<◌}
use Rattle.mix_num.specs.Vectors.{with_null}
use Rattle.mix_market.specs.Markets.{goods_of, lyapunov_of}
use Rattle.mix_market.specs.LargestFalls.{MayFall}
use Rattle.mix_market.specs.Steepest.{slope_down}
use Rattle.mix_step.proofs.LargestSets.{IsLast}
use Rattle.mix_fall.proofs.largest.largest_fall.Given as goal

abbrev pub invariant-loop-half : goal.invariant-loop-half
invariant-loop-half g l = record {
  last : IsLast (goods_of l.market) (MayFall (goods_of l.market) (with_null l.floor.items) (with_null l.prices.items)) (slope_down (lyapunov_of l.market) (with_null l.prices.items)) l.half l.best.set l.best.slope;
  before : l.best.set < 2 * l.half;
}
