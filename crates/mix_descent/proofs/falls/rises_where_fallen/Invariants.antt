use Rattle.std.proofs.Common.{ℕ, ◌*◌, ◌<◌, ◌<ℤ◌}
use Rattle.mix_num.specs.Vectors.{members, minus, with_null}
use Rattle.mix_market.specs.Lowerings.{CanFall}
use Rattle.mix_market.specs.Markets.{goods_of, lyapunov_of, reserves_of}
use Rattle.mix_descent.proofs.falls.rises_where_fallen.Given as goal

abbrev pub invariant-loop-half : goal.invariant-loop-half
invariant-loop-half g l = (set : ℕ) → set < 2 * l.half → CanFall (goods_of l.market) (with_null (reserves_of l.market)) (with_null l.prices.items) set → lyapunov_of l.market (with_null l.prices.items) <ℤ lyapunov_of l.market (minus (with_null l.prices.items) (members set))
