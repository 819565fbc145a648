use Rattle.std.proofs.Common.{◌≡◌, ◌∙◌, ℕ, suc, ℤ, pos, ◌-ℤ◌, to_z, of_z, w64, arith, subst, sym, refl}
use Rattle.std.proofs.lemmas.Int.{ints}
use Rattle.mix_num.specs.Vectors.{members, with_null, Agree}
use Rattle.mix_num.specs.Moves.{lowered}
use Rattle.mix_market.specs.Markets.{goods_of, lyapunov_of}
use Rattle.mix_market.specs.Gaps.{greatest_gap}
use Rattle.mix_market.specs.Lyapunov.{IsBelow}
use Rattle.mix_market.proofs.MarketFacts.{market_keeps}
use Rattle.mix_step.proofs.Rooms.{some_good, not_empty, nothing_in}
use Rattle.mix_step.proofs.Units.{widened}
use Rattle.mix_step.proofs.Gaps.{gap_covers}
use Rattle.mix_step.proofs.LargestFalls.{fall_ends, same_above}
use Rattle.mix_fall.specs.LongFalls.{IsLongFall}
use Rattle.mix_fall.proofs.LongFalls.{fallen_within, long_above, long_counts, long_depth, may_fall}
use Rattle.mix_fall.proofs.settling.fall.Goals as goal

pub loop-step-init : goal.loop-step-init
loop-step-init g c =
    let market = c.args.market.now in
    record {
      range = c.requires.high;
      over = c.requires.above;
      above = c.requires.least;
      near = λ a z least k h. let gap = gap_covers (goods_of market) (with_null c.args.high.items) a k h in omega (arith, ints);
    }

pub returns-then-bits-eq0-clause-least : goal.returns-then-bits-eq0-clause-least
returns-then-bits-eq0-clause-least g c =
    let market = c.args.market.now in
    let x = with_null c.loop-step.prices.items in
    let empty : c.largest_fall-step.result.set ≡ 0 = sym c.bits.ensures.value ∙ c.if-bits-eq0.true in
    fall_ends (market_keeps market) (with_null c.args.floor.now.items) x (members c.largest_fall-step.result.set) refl c.largest_fall-step.ensures.largest (λ k h. nothing_in c.largest_fall-step.result.set empty k) c.loop-step.invariant.over c.loop-step.invariant.above

pub returns-then-bits-eq0-clause-cost : goal.returns-then-bits-eq0-clause-cost
returns-then-bits-eq0-clause-cost g c =
    let least = returns-then-bits-eq0-clause-least g c in
    let own = c.loop-step.invariant.near (with_null c.loop-step.prices.items) refl least 0 (omega arith) in
    omega (arith, ints)

pub lower-prices-requires-clause-before : goal.lower-prices-requires-clause-before
lower-prices-requires-clause-before g c = widened _ c.loop-step.prices.items c.loop-step.invariant.range

pub lower-prices-requires-clause-after : goal.lower-prices-requires-clause-after
lower-prices-requires-clause-after g c =
    let length = to_z w64 (of_z w64 c.fall_length-length.result) in
    let same : length ≡ c.fall_length-length.result = omega (arith, ints) in
    let some = c.fall_length-length.ensures.long.some in
    let most = c.fall_length-length.ensures.most in
    may_fall _ c.loop-step.prices.items (members c.largest_fall-step.result.set) length c.loop-step.invariant.range c.largest_fall-step.ensures.goods.1 (omega (arith, ints)) (omega (arith, ints))

pub loop-step-smaller : goal.loop-step-smaller
loop-step-smaller g c =
    let market = c.args.market.now in
    let n = goods_of market in
    let x = with_null c.loop-step.prices.items in
    let floor = with_null c.args.floor.now.items in
    let s = members c.largest_fall-step.result.set in
    let may = c.largest_fall-step.ensures.largest.may in
    let length = to_z w64 (of_z w64 c.fall_length-length.result) in
    let same : length ≡ c.fall_length-length.result = omega (arith, ints) in
    let one = c.fall_length-length.ensures.long.some in
    let fallen = subst (λ (m : ℕ). Agree m (with_null c.lower-prices.result.items) (lowered x s length)) c.loop-step.invariant.range.0 c.lower-prices.ensures.prices in
    let some = some_good n c.largest_fall-step.result.set c.largest_fall-step.ensures.goods (λ e. c.if-bits-eq0.false (c.bits.ensures.value ∙ e)) in
    long_depth n x (with_null c.lower-prices.result.items) floor s length (omega (arith, ints)) some (λ k l e. may.above (suc k) (omega arith) e) fallen

pub loop-step-preserved : goal.loop-step-preserved
loop-step-preserved g c =
    let market = c.args.market.now in
    let n = goods_of market in
    let keeps = market_keeps market in
    let x = with_null c.loop-step.prices.items in
    let q = with_null c.lower-prices.result.items in
    let floor = with_null c.args.floor.now.items in
    let high = with_null c.args.high.items in
    let s = members c.largest_fall-step.result.set in
    let largest = c.largest_fall-step.ensures.largest in
    let before = c.loop-step.invariant in
    let length = to_z w64 (of_z w64 c.fall_length-length.result) in
    let same : c.fall_length-length.result ≡ length = omega (arith, ints) in
    let long = subst (λ (z : ℤ). IsLongFall n (lyapunov_of market) floor x s z) same c.fall_length-length.ensures.long in
    let fallen = subst (λ (m : ℕ). Agree m q (lowered x s length)) before.range.0 c.lower-prices.ensures.prices in
    let any = not_empty n c.largest_fall-step.result.set c.largest_fall-step.ensures.goods (λ e. c.if-bits-eq0.false (c.bits.ensures.value ∙ e)) in
    let over : IsBelow n floor q = λ k h. let entry = fallen k h in let u = long.above k h in omega (arith, ints) in
    record {
      range = fallen_within n c.args.floor.now.items c.loop-step.prices.items c.lower-prices.result.items s length c.requires.floor before.range c.lower-prices.ensures.goods long.some fallen over;
      over = over;
      above = same_above keeps (lowered x s length) q fallen (long_above keeps floor x s refl largest before.over length long before.above);
      near = λ a z least k h.
          let left = greatest_gap n high a -ℤ (pos c.loop-step.steps -ℤ pos c.args.steps.now) in
          let count = long_counts keeps floor x s refl largest before.over length long a z least before.above any left (before.near a z least) k h in
          let entry = fallen k h in
          let cost = c.largest_fall-step.ensures.cost in
          omega (arith, ints);
    }
