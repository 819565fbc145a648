use Rattle.std.proofs.Common.{ℕ}
use Rattle.mix_num.specs.Vectors.{members, with_null}
use Rattle.mix_market.specs.Markets.{lyapunov_of}
use Rattle.mix_market.specs.Steepest.{slope_down}
use Rattle.mix_market.proofs.SlopeTables.{AreDone}
use Rattle.mix_market.proofs.market.Market.slopes_down.Given as goal

abbrev pub invariant-loop-half : goal.invariant-loop-half
invariant-loop-half g l = AreDone l.out (λ (set : ℕ). slope_down (lyapunov_of l.self) (with_null l.prices.items) (members set)) l.half
