use Rattle.std.proofs.Common.{◌≡◌, ◌∙◌, ℕ, List, ℤ, pos, ◌-ℤ◌, ◌≤ℤ◌, to_z, of_z, w64, arith, ap, subst, sym, refl}
use Rattle.std.proofs.lemmas.Int.{ints}
use Rattle.mix_num.specs.Vectors.{members, with_null, Agree}
use Rattle.mix_num.specs.Ranges.{AreWithin}
use Rattle.mix_num.specs.Moves.{AreEntries, raised}
use Rattle.mix_market.specs.Markets.{lyapunov_of, goods_of}
use Rattle.mix_market.specs.Steepest.{slope_of}
use Rattle.mix_market.specs.Gaps.{greatest_gap}
use Rattle.mix_market.proofs.MarketLaws.{slope-none}
use Rattle.mix_market.proofs.MarketFacts.{market_keeps}
use Rattle.mix_step.proofs.Climbs.{start_best, best_same, end_least}
use Rattle.mix_step.proofs.Rooms.{some_good, not_empty}
use Rattle.mix_step.proofs.Bounds.{rises_low}
use Rattle.mix_step.proofs.LongMoves.{far_low, may_move, may_rise, moved_within, room_of}
use Rattle.mix_step.proofs.Gaps.{gap_covers}
use Rattle.mix_step.proofs.LongRises.{IsLinear, far_best, far_counts, far_room}
use Rattle.mix_fall.proofs.settling.rise.Goals as goal

pub loop-step-init : goal.loop-step-init
loop-step-init g c =
    let market = c.args.market.now in
    let same = sym c.copy-prices.ensures in
    record {
      range = subst (AreWithin 1000000 (goods_of market)) same c.requires.start;
      best = start_best (market_keeps market) _ _ (λ k h. ap (λ (z : List ℤ). with_null z k) same);
      near = λ u z least k h.
          let gap = gap_covers (goods_of market) u (with_null c.args.start.now.items) k h in
          let entry = ap (λ (z : List ℤ). with_null z k) same in
          omega (arith, ints);
    }

pub returns-then-bits-eq0-clause-least : goal.returns-then-bits-eq0-clause-least
returns-then-bits-eq0-clause-least g c =
    let market = c.args.market.now in
    let x = with_null c.loop-step.prices.items in
    let empty : c.least_step-step.result.set ≡ 0 = sym c.bits.ensures.value ∙ c.if-bits-eq0.true in
    let none = ap (λ (set : ℕ). slope_of (lyapunov_of market) x (members set)) empty ∙ slope-none (market_keeps market) x in
    end_least (market_keeps market) _ x c.loop-step.invariant.best refl (λ t h. let up = c.least_step-step.ensures.minimal.steepest t h in omega (arith, ints))

pub returns-then-bits-eq0-clause-cost : goal.returns-then-bits-eq0-clause-cost
returns-then-bits-eq0-clause-cost g c =
    let least = returns-then-bits-eq0-clause-least g c in
    let own = c.loop-step.invariant.near (with_null c.loop-step.prices.items) refl least 0 (omega arith) in
    omega (arith, ints)

pub reach-reach-requires-clause-prices : goal.reach-reach-requires-clause-prices
reach-reach-requires-clause-prices g c = room_of _ _ c.loop-step.invariant.range

pub raise-prices-requires-clause-before : goal.raise-prices-requires-clause-before
raise-prices-requires-clause-before g c = may_move _ _ c.loop-step.invariant.range

pub raise-prices-requires-clause-after : goal.raise-prices-requires-clause-after
raise-prices-requires-clause-after g c =
    let market = c.args.market.now in
    let s = members c.least_step-step.result.set in
    let reach = to_z w64 (of_z w64 c.reach-reach.result) in
    let same : reach ≡ c.reach-reach.result = omega (arith, ints) in
    let some : pos 1 ≤ℤ reach = omega (arith, ints) in
    let low = far_low market (with_null c.loop-step.prices.items) s reach refl some c.least_step-step.ensures.minimal (λ m h. c.reach-reach.ensures.linear m (omega (arith, ints))) in
    subst (λ (n : ℕ). AreEntries n (raised (with_null c.loop-step.prices.items) s reach)) (sym c.loop-step.invariant.range.0)
    (may_rise (goods_of market) c.loop-step.prices.items s reach (omega (arith, ints)) c.loop-step.invariant.range c.least_step-step.ensures.goods.1 low)

pub loop-step-smaller : goal.loop-step-smaller
loop-step-smaller g c =
    let market = c.args.market.now in
    let n = goods_of market in
    let x = with_null c.loop-step.prices.items in
    let s = members c.least_step-step.result.set in
    let reach = to_z w64 (of_z w64 c.reach-reach.result) in
    let same : reach ≡ c.reach-reach.result = omega (arith, ints) in
    let low = rises_low market x s refl c.least_step-step.ensures.minimal in
    let risen = subst (λ (m : ℕ). Agree m (with_null c.raise-prices.result.items) (raised x s reach)) c.loop-step.invariant.range.0 c.raise-prices.ensures.prices in
    let some = some_good n c.least_step-step.result.set c.least_step-step.ensures.goods (λ e. c.if-bits-eq0.false (c.bits.ensures.value ∙ e)) in
    far_room n x (with_null c.raise-prices.result.items) s reach (omega (arith, ints)) some low risen

pub loop-step-preserved : goal.loop-step-preserved
loop-step-preserved g c =
    let market = c.args.market.now in
    let n = goods_of market in
    let x = with_null c.loop-step.prices.items in
    let start = with_null c.args.start.now.items in
    let s = members c.least_step-step.result.set in
    let step = c.least_step-step.ensures.minimal in
    let before = c.loop-step.invariant in
    let reach = to_z w64 (of_z w64 c.reach-reach.result) in
    let same : reach ≡ c.reach-reach.result = omega (arith, ints) in
    let one : pos 1 ≤ℤ reach = omega (arith, ints) in
    let linear : IsLinear (lyapunov_of market) x s reach = λ m h. c.reach-reach.ensures.linear m (omega (arith, ints)) in
    let low = far_low market x s reach refl one step linear in
    let risen = subst (λ (m : ℕ). Agree m (with_null c.raise-prices.result.items) (raised x s reach)) before.range.0 c.raise-prices.ensures.prices in
    let some = not_empty n c.least_step-step.result.set c.least_step-step.ensures.goods (λ e. c.if-bits-eq0.false (c.bits.ensures.value ∙ e)) in
    record {
      range = moved_within n c.loop-step.prices.items _ s reach (omega (arith, ints)) before.range c.raise-prices.ensures.goods c.raise-prices.ensures.prices low;
      best = best_same (market_keeps market) _ _ _ risen (far_best (market_keeps market) start x s reach one step linear before.best);
      near = λ u z least k h.
          let left = greatest_gap n u start -ℤ (pos c.loop-step.steps -ℤ pos c.args.steps.now) in
          let count = far_counts (market_keeps market) start u z least x s reach one refl before.best step some left (before.near u z least) k h in
          let entry = risen k h in
          let cost = c.least_step-step.ensures.cost in
          omega (arith, ints);
    }
