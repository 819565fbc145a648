use Rattle.std.proofs.Common.{pos, ◌-ℤ◌}
use Rattle.mix_num.specs.Vectors.{Vector, with_null}
use Rattle.mix_num.specs.Ranges.{AreWithin}
use Rattle.mix_law.proofs.Exchanges.{AtMost}
use Rattle.mix_seller.specs.Sellers.{reserve_of}
use Rattle.mix_market.specs.Gaps.{greatest_gap}
use Rattle.mix_range.specs.HighPoints.{IsAsLow, IsGreatestAsLow}
use Rattle.mix_market.specs.Markets.{goods_of, lyapunov_of, seller_of}
use Rattle.mix_step.proofs.Rooms.{room}
use Rattle.mix_range.proofs.range.rise.Given as goal

abbrev pub invariant-loop-step : goal.invariant-loop-step
invariant-loop-step g l = record {
  range : AreWithin 1000000 (goods_of l.market) l.prices.items;
  own : IsAsLow (goods_of l.market) (lyapunov_of l.market) (with_null (reserve_of (seller_of l.market))) (with_null l.ceiling.items) (with_null l.low.items) (with_null l.prices.items);
  near : (q : Vector) → IsGreatestAsLow (goods_of l.market) (lyapunov_of l.market) (with_null (reserve_of (seller_of l.market))) (with_null l.ceiling.items) (with_null l.low.items) q
      → AtMost (goods_of l.market) q (with_null l.prices.items) (greatest_gap (goods_of l.market) q (with_null l.low.items) -ℤ (pos l.steps -ℤ pos l.fn.steps));
}

abbrev pub decreases-loop-step : goal.decreases-loop-step
decreases-loop-step g l = room (goods_of l.market) (with_null l.prices.items)
