use Rattle.std.proofs.Common.{◌*◌, ◌<◌}
use Rattle.mix_num.specs.Vectors.{with_null}
use Rattle.mix_market.specs.Markets.{goods_of, lyapunov_of}
use Rattle.mix_market.specs.Steepest.{slope_of}
use Rattle.mix_range.specs.HighPoints.{MayRise}
use Rattle.mix_step.proofs.LargestSets.{IsLast}
use Rattle.mix_range.proofs.largest.largest_rise.Given as goal

abbrev pub invariant-loop-half : goal.invariant-loop-half
invariant-loop-half g l = record {
  last : IsLast (goods_of l.market) (MayRise (goods_of l.market) (with_null l.ceiling.items) (with_null l.prices.items)) (slope_of (lyapunov_of l.market) (with_null l.prices.items)) l.half l.best.set l.best.slope;
  before : l.best.set < 2 * l.half;
}
