use Rattle.std.proofs.Common.{◌≡◌, ◌∙◌, ◌+ℤ◌, ℤ, pos, ◌≤ℤ◌, ℕ, arith, subst, sym, refl, to_z, of_z, w64}
use Rattle.std.proofs.lemmas.Bool.{false≢true}
use Rattle.std.proofs.lemmas.Int.{ints}
use Rattle.mix_num.specs.Vectors.{members, with_null, Agree}
use Rattle.mix_num.specs.Moves.{AreEntries, raised}
use Rattle.mix_market.specs.Markets.{goods_of, lyapunov_of}
use Rattle.mix_market.proofs.MarketFacts.{market_keeps}
use Rattle.mix_descent.specs.Trails.{IsLongStep}
use Rattle.mix_descent.proofs.Stretches.{way_start, way_reach, way_on, way_end, way_after, less_left, low_from, far_at_most}
use Rattle.mix_step.proofs.LongMoves.{moved_within, may_rise, may_move, room_of}
use Rattle.mix_descent.proofs.long_step.long_step.Goals as goal

pub loop-step-init : goal.loop-step-init
loop-step-init g c = record {
  range = c.requires.range;
  way = way_start (market_keeps c.args.market.now) _ _ _ _ _ refl (λ k h. refl) c.requires.slope;
}

pub raise-requires-clause-before : goal.raise-requires-clause-before
raise-requires-clause-before g c = may_move _ _ c.loop-step.invariant.range

pub raise-requires-clause-after : goal.raise-requires-clause-after
raise-requires-clause-after g c =
    let market = c.args.market.now in
    let s = members c.args.step.set in
    let reach = to_z w64 (of_z w64 c.reach-reach.result) in
    let same : reach ≡ c.reach-reach.result = omega (arith, ints) in
    let some : pos 1 ≤ℤ reach = omega (arith, ints) in
    let low = low_from market _ _ s _ _ reach refl c.requires.minimal c.loop-step.invariant.way some (λ m h. c.reach-reach.ensures.linear m (omega (arith, ints))) in
    subst (λ (n : ℕ). AreEntries n (raised (with_null c.loop-step.prices.items) s reach)) (sym c.loop-step.invariant.range.0)
    (may_rise (goods_of market) c.loop-step.prices.items s reach (omega (arith, ints)) c.loop-step.invariant.range c.requires.goods.1 low)

pub overflow_add-length : goal.overflow_add-length
overflow_add-length g c =
    let way = c.loop-step.invariant.way in
    let far = far_at_most c.args.market.now c.args.prices.now.items c.args.step.set c.args.step.slope _ c.requires.range c.requires.goods c.requires.some (omega arith) c.requires.minimal way.straight in
    let is = way.is in
    let same : to_z w64 (of_z w64 c.reach-reach.result) ≡ c.reach-reach.result = omega (arith, ints) in
    omega (arith, ints)

pub slopes-requires : goal.slopes-requires
slopes-requires g c =
    let market = c.args.market.now in
    let s = members c.args.step.set in
    let reach = to_z w64 (of_z w64 c.reach-reach.result) in
    let same : reach ≡ c.reach-reach.result = omega (arith, ints) in
    let some : pos 1 ≤ℤ reach = omega (arith, ints) in
    let low = low_from market _ _ s _ _ reach refl c.requires.minimal c.loop-step.invariant.way some (λ m h. c.reach-reach.ensures.linear m (omega (arith, ints))) in
    room_of _ _ (moved_within _ _ _ s reach (omega (arith, ints)) c.loop-step.invariant.range c.raise.ensures.goods c.raise.ensures.prices low)

pub returns-then-not-has_slope-clause-long : goal.returns-then-not-has_slope-clause-long
returns-then-not-has_slope-clause-long g c =
    let market = c.args.market.now in
    let s = members c.args.step.set in
    let way = c.loop-step.invariant.way in
    let reach = to_z w64 (of_z w64 c.reach-reach.result) in
    let length = to_z w64 (of_z w64 (to_z w64 c.loop-step.length-bits +ℤ reach)) in
    let same : reach ≡ c.reach-reach.result = omega (arith, ints) in
    let some : pos 1 ≤ℤ reach = omega (arith, ints) in
    let far = far_at_most market c.args.prices.now.items c.args.step.set c.args.step.slope _ c.requires.range c.requires.goods c.requires.some (omega arith) c.requires.minimal way.straight in
    let is = way.is in
    let sum : length ≡ to_z w64 c.loop-step.length-bits +ℤ reach = omega (arith, ints) in
    let agree = subst (λ (n : ℕ). Agree n (with_null c.raise.result.items) (raised (with_null c.loop-step.prices.items) s reach)) c.loop-step.invariant.range.0 c.raise.ensures.prices in
    let came = way_reach (market_keeps market) (with_null c.args.prices.now.items) s _ _ _ _ reach length way some (λ m h. c.reach-reach.ensures.linear m (omega (arith, ints))) agree sum in
    let slope : to_z w64 (of_z w64 c.args.step.slope) ≡ c.args.step.slope = omega (arith, ints) in
    subst (λ (z : ℤ). IsLongStep (goods_of market) (lyapunov_of market) (with_null c.args.prices.now.items) (record { set = c.args.step.set; length = length; slope = z })) (sym slope)
    (way_end (market_keeps market) (with_null c.args.prices.now.items) (record { set = c.args.step.set; length = length; slope = c.args.step.slope }) (with_null c.raise.result.items) c.requires.goods c.requires.some c.requires.minimal c.requires.slope came
    (λ q. false≢true (sym c.if-not-has_slope.true ∙ c.has_slope.ensures.1 (c.slopes.ensures.goods c.args.step.set c.requires.goods ∙ q ∙ sym slope))))

pub returns-then-not-has_slope-clause-prices : goal.returns-then-not-has_slope-clause-prices
returns-then-not-has_slope-clause-prices g c =
    let market = c.args.market.now in
    let s = members c.args.step.set in
    let way = c.loop-step.invariant.way in
    let reach = to_z w64 (of_z w64 c.reach-reach.result) in
    let length = to_z w64 (of_z w64 (to_z w64 c.loop-step.length-bits +ℤ reach)) in
    let same : reach ≡ c.reach-reach.result = omega (arith, ints) in
    let some : pos 1 ≤ℤ reach = omega (arith, ints) in
    let far = far_at_most market c.args.prices.now.items c.args.step.set c.args.step.slope _ c.requires.range c.requires.goods c.requires.some (omega arith) c.requires.minimal way.straight in
    let is = way.is in
    let sum : length ≡ to_z w64 c.loop-step.length-bits +ℤ reach = omega (arith, ints) in
    let agree = subst (λ (n : ℕ). Agree n (with_null c.raise.result.items) (raised (with_null c.loop-step.prices.items) s reach)) c.loop-step.invariant.range.0 c.raise.ensures.prices in
    let came = way_reach (market_keeps market) (with_null c.args.prices.now.items) s _ _ _ _ reach length way some (λ m h. c.reach-reach.ensures.linear m (omega (arith, ints))) agree sum in
    way_after (goods_of market) (lyapunov_of market) (with_null c.args.prices.now.items) (with_null c.raise.result.items) s c.args.step.slope length came

pub returns-then-not-has_slope-clause-range : goal.returns-then-not-has_slope-clause-range
returns-then-not-has_slope-clause-range g c =
    let market = c.args.market.now in
    let s = members c.args.step.set in
    let reach = to_z w64 (of_z w64 c.reach-reach.result) in
    let same : reach ≡ c.reach-reach.result = omega (arith, ints) in
    let some : pos 1 ≤ℤ reach = omega (arith, ints) in
    let low = low_from market _ _ s _ _ reach refl c.requires.minimal c.loop-step.invariant.way some (λ m h. c.reach-reach.ensures.linear m (omega (arith, ints))) in
    moved_within _ _ _ s reach (omega (arith, ints)) c.loop-step.invariant.range c.raise.ensures.goods c.raise.ensures.prices low

pub loop-step-smaller : goal.loop-step-smaller
loop-step-smaller g c =
    let market = c.args.market.now in
    let s = members c.args.step.set in
    let way = c.loop-step.invariant.way in
    let reach = to_z w64 (of_z w64 c.reach-reach.result) in
    let length = to_z w64 (of_z w64 (to_z w64 c.loop-step.length-bits +ℤ reach)) in
    let same : reach ≡ c.reach-reach.result = omega (arith, ints) in
    let some : pos 1 ≤ℤ reach = omega (arith, ints) in
    let far = far_at_most market c.args.prices.now.items c.args.step.set c.args.step.slope _ c.requires.range c.requires.goods c.requires.some (omega arith) c.requires.minimal way.straight in
    let is = way.is in
    let sum : length ≡ to_z w64 c.loop-step.length-bits +ℤ reach = omega (arith, ints) in
    let agree = subst (λ (n : ℕ). Agree n (with_null c.raise.result.items) (raised (with_null c.loop-step.prices.items) s reach)) c.loop-step.invariant.range.0 c.raise.ensures.prices in
    let came = way_reach (market_keeps market) (with_null c.args.prices.now.items) s _ _ _ _ reach length way some (λ m h. c.reach-reach.ensures.linear m (omega (arith, ints))) agree sum in
    let last = far_at_most market c.args.prices.now.items c.args.step.set c.args.step.slope came.taken c.requires.range c.requires.goods c.requires.some came.some c.requires.minimal came.straight in
    less_left (to_z w64 c.loop-step.length-bits) length reach came.taken sum some came.is last

pub loop-step-preserved : goal.loop-step-preserved
loop-step-preserved g c =
    let market = c.args.market.now in
    let s = members c.args.step.set in
    let way = c.loop-step.invariant.way in
    let reach = to_z w64 (of_z w64 c.reach-reach.result) in
    let length = to_z w64 (of_z w64 (to_z w64 c.loop-step.length-bits +ℤ reach)) in
    let same : reach ≡ c.reach-reach.result = omega (arith, ints) in
    let some : pos 1 ≤ℤ reach = omega (arith, ints) in
    let far = far_at_most market c.args.prices.now.items c.args.step.set c.args.step.slope _ c.requires.range c.requires.goods c.requires.some (omega arith) c.requires.minimal way.straight in
    let is = way.is in
    let sum : length ≡ to_z w64 c.loop-step.length-bits +ℤ reach = omega (arith, ints) in
    let agree = subst (λ (n : ℕ). Agree n (with_null c.raise.result.items) (raised (with_null c.loop-step.prices.items) s reach)) c.loop-step.invariant.range.0 c.raise.ensures.prices in
    let came = way_reach (market_keeps market) (with_null c.args.prices.now.items) s _ _ _ _ reach length way some (λ m h. c.reach-reach.ensures.linear m (omega (arith, ints))) agree sum in
    let low = low_from market _ _ s _ _ reach refl c.requires.minimal way some (λ m h. c.reach-reach.ensures.linear m (omega (arith, ints))) in
    let slope : to_z w64 (of_z w64 c.args.step.slope) ≡ c.args.step.slope = omega (arith, ints) in
    record {
      range = moved_within _ _ _ s reach (omega (arith, ints)) c.loop-step.invariant.range c.raise.ensures.goods c.raise.ensures.prices low;
      way = way_on (market_keeps market) _ _ _ _ _ came (sym (c.slopes.ensures.goods c.args.step.set c.requires.goods) ∙ c.has_slope.ensures.0 c.if-not-has_slope.false ∙ slope);
    }
