use Rattle.std.proofs.Common.{pos, ◌-ℤ◌, ◌≤ℤ◌}
use Rattle.mix_law.proofs.Lattice.{over}
use Rattle.mix_market.specs.Markets.{goods_of, lyapunov_of, reserves_of}
use Rattle.mix_descent.proofs.GuessedClimbs.{HaveFailed}
use Rattle.mix_descent.proofs.near.descend_near.Given as goal

-- the climbs so far have failed
abbrev pub invariant-loop-prices : goal.invariant-loop-prices
invariant-loop-prices g l = record {
  range : (pos 0 ≤ℤ l.margin) × (l.margin ≤ℤ pos 16000000);
  failed : HaveFailed (goods_of l.market) (lyapunov_of l.market) l.guess.items (reserves_of l.market) l.margin l.initial.steps l.steps;
}

abbrev pub decreases-loop-prices : goal.decreases-loop-prices
decreases-loop-prices g l = over (pos 2000000 -ℤ l.margin)
