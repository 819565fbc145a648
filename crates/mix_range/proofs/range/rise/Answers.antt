use Rattle.std.proofs.Common.{◌≡◌, ◌∙◌, ℕ, suc, ◌≤◌, true, List, ℤ, pos, ◌+ℤ◌, ◌-ℤ◌, ◌*ℤ◌, ◌≤ℤ◌, to_z, of_z, w64, arith, ap, subst, sym, refl}
use Rattle.std.proofs.lemmas.Int.{ints}
use Rattle.mix_num.specs.Vectors.{members, with_null, ray, Agree}
use Rattle.mix_num.specs.Moves.{raised}
use Rattle.mix_num.specs.Ranges.{AreWithin}
use Rattle.mix_seller.specs.Sellers.{reserve_of}
use Rattle.mix_market.specs.Markets.{lyapunov_of, goods_of, seller_of}
use Rattle.mix_market.specs.Gaps.{greatest_gap}
use Rattle.mix_market.specs.Steepest.{slope_of}
use Rattle.mix_range.specs.HighPoints.{IsAsLow}
use Rattle.mix_market.proofs.MarketFacts.{market_keeps}
use Rattle.mix_step.proofs.Rooms.{some_good, not_empty, nothing_in}
use Rattle.mix_step.proofs.Units.{widened}
use Rattle.mix_range.proofs.Ceilings.{between, may_rise, under_ceiling}
use Rattle.mix_step.proofs.Gaps.{gap_covers}
use Rattle.mix_range.proofs.HighPoints.{low_as_low, as_low_same, rise_ends}
use Rattle.mix_range.proofs.LongRises.{below_goods, long_as_low, long_counts}
use Rattle.mix_step.proofs.LongRises.{far_room}
use Rattle.mix_step.proofs.LongMoves.{room_of}
use Rattle.mix_range.proofs.range.rise.Goals as goal

pub loop-step-init : goal.loop-step-init
loop-step-init g c =
    let market = c.args.market.now in
    let n = goods_of market in
    let reserve = with_null (reserve_of (seller_of market)) in
    let ceiling = with_null c.args.ceiling.now.items in
    let low = with_null c.args.low.now.items in
    let same = sym c.copy-prices.ensures in
    record {
      range = subst (AreWithin 1000000 n) same (between n (reserve_of (seller_of market)) c.args.ceiling.now.items c.args.low.now.items (seller_of market).for_sale.reserves c.requires.ceiling c.requires.low c.requires.least.above c.requires.below);
      own = subst (λ (z : List ℤ). IsAsLow n (lyapunov_of market) reserve ceiling low (with_null z)) same (low_as_low (market_keeps market) reserve ceiling low c.requires.least refl c.requires.below);
      near = λ q top k h.
          let gap = gap_covers n q low k h in
          let entry = ap (λ (z : List ℤ). with_null z k) same in
          omega (arith, ints);
    }

pub returns-then-bits-eq0-clause-greatest : goal.returns-then-bits-eq0-clause-greatest
returns-then-bits-eq0-clause-greatest g c =
    let market = c.args.market.now in
    let empty : c.largest_rise-step.result.set ≡ 0 = sym c.bits.ensures.value ∙ c.if-bits-eq0.true in
    rise_ends (market_keeps market) (with_null (reserve_of (seller_of market))) (with_null c.args.ceiling.now.items) (with_null c.args.low.now.items) c.requires.least (with_null c.loop-step.prices.items) c.loop-step.invariant.own (members c.largest_rise-step.result.set) c.largest_rise-step.ensures.largest (λ k h. nothing_in c.largest_rise-step.result.set empty k)

pub returns-then-bits-eq0-clause-cost : goal.returns-then-bits-eq0-clause-cost
returns-then-bits-eq0-clause-cost g c =
    let top = returns-then-bits-eq0-clause-greatest g c in
    let own = c.loop-step.invariant.near (with_null c.loop-step.prices.items) top 0 (omega arith) in
    omega (arith, ints)

pub reach-reach-requires-clause-prices : goal.reach-reach-requires-clause-prices
reach-reach-requires-clause-prices g c = room_of _ _ c.loop-step.invariant.range

pub steps_below-length-requires-clause-may : goal.steps_below-length-requires-clause-may
steps_below-length-requires-clause-may g c = λ k h e. c.largest_rise-step.ensures.largest.may.below (suc k) (let size = c.loop-step.invariant.range.0 in omega arith) e

pub raise-prices-requires-clause-before : goal.raise-prices-requires-clause-before
raise-prices-requires-clause-before g c = widened _ c.loop-step.prices.items c.loop-step.invariant.range

pub raise-prices-requires-clause-after : goal.raise-prices-requires-clause-after
raise-prices-requires-clause-after g c =
    let length = to_z w64 (of_z w64 c.steps_below-length.result) in
    let same : length ≡ c.steps_below-length.result = omega (arith, ints) in
    may_rise _ c.args.ceiling.now.items c.loop-step.prices.items (members c.largest_rise-step.result.set) length c.requires.ceiling c.loop-step.invariant.range c.largest_rise-step.ensures.goods.1 (omega (arith, ints))
    (λ k h e. let u = c.steps_below-length.ensures.below k (let size = c.loop-step.invariant.range.0 in omega arith) e in omega (arith, ints))

pub loop-step-smaller : goal.loop-step-smaller
loop-step-smaller g c =
    let market = c.args.market.now in
    let n = goods_of market in
    let x = with_null c.loop-step.prices.items in
    let s = members c.largest_rise-step.result.set in
    let length = to_z w64 (of_z w64 c.steps_below-length.result) in
    let same : length ≡ c.steps_below-length.result = omega (arith, ints) in
    let low = under_ceiling n c.args.ceiling.now.items x s c.requires.ceiling (λ k l e. c.largest_rise-step.ensures.largest.may.below (suc k) (omega arith) e) in
    let risen = subst (λ (m : ℕ). Agree m (with_null c.raise-prices.result.items) (raised x s length)) c.loop-step.invariant.range.0 c.raise-prices.ensures.prices in
    let some = some_good n c.largest_rise-step.result.set c.largest_rise-step.ensures.goods (λ e. c.if-bits-eq0.false (c.bits.ensures.value ∙ e)) in
    far_room n x (with_null c.raise-prices.result.items) s length (omega (arith, ints)) some low risen

pub loop-step-preserved : goal.loop-step-preserved
loop-step-preserved g c =
    let market = c.args.market.now in
    let n = goods_of market in
    let keeps = market_keeps market in
    let x = with_null c.loop-step.prices.items in
    let floor = reserve_of (seller_of market) in
    let reserve = with_null floor in
    let ceiling = with_null c.args.ceiling.now.items in
    let start = with_null c.args.low.now.items in
    let s = members c.largest_rise-step.result.set in
    let largest = c.largest_rise-step.ensures.largest in
    let before = c.loop-step.invariant in
    let length = to_z w64 (of_z w64 c.steps_below-length.result) in
    let same : length ≡ c.steps_below-length.result = omega (arith, ints) in
    let one : pos 1 ≤ℤ length = omega (arith, ints) in
    let risen = subst (λ (m : ℕ). Agree m (with_null c.raise-prices.result.items) (raised x s length)) before.range.0 c.raise-prices.ensures.prices in
    let any = not_empty n c.largest_rise-step.result.set c.largest_rise-step.ensures.goods (λ e. c.if-bits-eq0.false (c.bits.ensures.value ∙ e)) in
    let linear : (m : ℕ) → pos m ≤ℤ length → lyapunov_of market (ray x m s) ≡ lyapunov_of market x +ℤ (pos m *ℤ slope_of (lyapunov_of market) x s) = λ m h. c.reach-reach.ensures.linear m (omega (arith, ints)) in
    let under : (k : ℕ) → k ≤ n → s k ≡ true → (x k +ℤ length) ≤ℤ ceiling k = below_goods n x ceiling s length c.largest_rise-step.ensures.goods.1 (λ k h e. let u = c.steps_below-length.ensures.below k (let size = before.range.0 in omega arith) e in omega (arith, ints)) in
    let own = as_low_same keeps reserve ceiling start (raised x s length) (with_null c.raise-prices.result.items) risen (long_as_low keeps reserve ceiling start c.requires.least x before.own s largest length one linear under) in
    record {
      range = between n floor c.args.ceiling.now.items c.raise-prices.result.items (seller_of market).for_sale.reserves c.requires.ceiling (c.raise-prices.ensures.goods ∙ before.range.0) own.above own.below;
      own = own;
      near = λ q top k h.
          let left = greatest_gap n q start -ℤ (pos c.loop-step.steps -ℤ pos c.args.steps.now) in
          let count = long_counts keeps reserve ceiling start c.requires.least x before.own s largest length one q top any left (before.near q top) k h in
          let entry = risen k h in
          let cost = c.largest_rise-step.ensures.cost in
          omega (arith, ints);
    }
