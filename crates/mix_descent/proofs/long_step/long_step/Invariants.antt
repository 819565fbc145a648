use Rattle.std.proofs.Common.{pos, ◌-ℤ◌}
use Rattle.mix_num.specs.Vectors.{members, with_null}
use Rattle.mix_num.specs.Ranges.{AreWithin}
use Rattle.mix_law.proofs.Lattice.{over}
use Rattle.mix_market.specs.Markets.{goods_of, lyapunov_of}
use Rattle.mix_descent.proofs.Stretches.{IsOnTheWay}
use Rattle.mix_descent.proofs.long_step.long_step.Given as goal

abbrev pub invariant-loop-step : goal.invariant-loop-step
invariant-loop-step g l = record {
  range : AreWithin 1000000 (goods_of l.market) l.prices.items;
  way : IsOnTheWay (goods_of l.market) (lyapunov_of l.market) (with_null l.initial.prices.items) (members l.step.set) l.step.slope (with_null l.prices.items) l.length;
}

abbrev pub decreases-loop-step : goal.decreases-loop-step
decreases-loop-step g l = over (pos 2000000 -ℤ l.length)
