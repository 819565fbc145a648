use Rattle.std.proofs.Common.{◌≡◌, ◌∙◌, ℕ, List, ℤ, arith, ap, subst, sym, refl}
use Rattle.std.proofs.lemmas.Int.{ints}
use Rattle.mix_num.specs.Vectors.{members, with_null}
use Rattle.mix_num.specs.Ranges.{AreWithin}
use Rattle.mix_market.specs.Markets.{lyapunov_of, goods_of}
use Rattle.mix_market.specs.Steepest.{slope_of, IsMinimalSteepest}
use Rattle.mix_market.proofs.MarketLaws.{slope-none}
use Rattle.mix_market.proofs.MarketFacts.{market_keeps}
use Rattle.mix_step.proofs.Bounds.{least_below_tops}
use Rattle.mix_step.proofs.FirstSteepest.{least_of_slopes, no_slope}
use Rattle.mix_step.proofs.Climbs.{start_best, end_least}
use Rattle.mix_descent.proofs.Landings.{long_smaller}
use Rattle.mix_descent.proofs.TrailFacts.{climbed_none, climbed_more, long_best}
use Rattle.mix_descent.proofs.descent.descend.Goals as goal

pub loop-slopes-init : goal.loop-slopes-init
loop-slopes-init g c =
    let market = c.args.market.now in
    let same = sym c.copy-prices.ensures in
    record {
      range = subst (AreWithin 1000000 (goods_of market)) same c.requires;
      slopes = c.slopes.ensures.goods;
      best = start_best (market_keeps market) _ _ (λ k h. ap (λ (z : List ℤ). with_null z k) same);
      climbed = climbed_none (goods_of market) _ _ _ _ (λ k h. ap (λ (z : List ℤ). with_null z k) (sym same));
    }

pub returns-then-bits-eq0-clause-least : goal.returns-then-bits-eq0-clause-least
returns-then-bits-eq0-clause-least g c =
    let market = c.args.market.now in
    let x = with_null c.loop-slopes.prices.items in
    let empty : c.least_among-step.result.set ≡ 0 = sym c.bits.ensures.value ∙ c.if-bits-eq0.true in
    let none = ap (λ (set : ℕ). slope_of (lyapunov_of market) x (members set)) empty ∙ slope-none (market_keeps market) x in
    end_least (market_keeps market) _ x c.loop-slopes.invariant.best refl (λ t h. let up = (least_of_slopes (market_keeps c.args.market.now) (with_null c.loop-slopes.prices.items) c.loop-slopes.slopes _ _ _ (c.len.ensures.value ∙ c.loop-slopes.invariant.range.0) c.loop-slopes.invariant.slopes c.least_among-step.ensures.first).minimal.steepest t h in let is = (least_of_slopes (market_keeps c.args.market.now) (with_null c.loop-slopes.prices.items) c.loop-slopes.slopes _ _ _ (c.len.ensures.value ∙ c.loop-slopes.invariant.range.0) c.loop-slopes.invariant.slopes c.least_among-step.ensures.first).is in omega (arith, ints))

pub returns-then-bits-eq0-clause-tops : goal.returns-then-bits-eq0-clause-tops
returns-then-bits-eq0-clause-tops g c = least_below_tops c.args.market.now _ (with_null c.loop-slopes.prices.items) refl (returns-then-bits-eq0-clause-least g c)

pub returns-then-bits-eq0-clause-cost : goal.returns-then-bits-eq0-clause-cost
returns-then-bits-eq0-clause-cost g c =
    let market = c.args.market.now in
    let x = with_null c.loop-slopes.prices.items in
    let empty : c.least_among-step.result.set ≡ 0 = sym c.bits.ensures.value ∙ c.if-bits-eq0.true in
    let climbed = c.loop-slopes.invariant.climbed in
    let counted = climbed.counted in (
      climbed.steps,
      record { chained = climbed.way; ends = subst (λ (set : ℕ). IsMinimalSteepest (goods_of market) (lyapunov_of market) x (members set)) empty (least_of_slopes (market_keeps c.args.market.now) (with_null c.loop-slopes.prices.items) c.loop-slopes.slopes _ _ _ (c.len.ensures.value ∙ c.loop-slopes.invariant.range.0) c.loop-slopes.invariant.slopes c.least_among-step.ensures.first).minimal },
      omega (arith, c.least_among-step.ensures.cost),
    )

pub least_among-step-requires-clause-none : goal.least_among-step-requires-clause-none
least_among-step-requires-clause-none g c = no_slope (market_keeps c.args.market.now) (with_null c.loop-slopes.prices.items) c.loop-slopes.slopes c.loop-slopes.invariant.slopes

pub long_step-requires-clause-some : goal.long_step-requires-clause-some
long_step-requires-clause-some g c = λ e. c.if-bits-eq0.false (c.bits.ensures.value ∙ e)

pub long_step-requires-clause-minimal : goal.long_step-requires-clause-minimal
long_step-requires-clause-minimal g c = (least_of_slopes (market_keeps c.args.market.now) (with_null c.loop-slopes.prices.items) c.loop-slopes.slopes _ _ _ (c.len.ensures.value ∙ c.loop-slopes.invariant.range.0) c.loop-slopes.invariant.slopes c.least_among-step.ensures.first).minimal

pub loop-slopes-smaller : goal.loop-slopes-smaller
loop-slopes-smaller g c = long_smaller c.args.market.now (with_null c.loop-slopes.prices.items) _ _ refl c.long_step.ensures.long c.long_step.ensures.prices

pub loop-slopes-preserved : goal.loop-slopes-preserved
loop-slopes-preserved g c =
    let market = c.args.market.now in
    let long = c.long_step.ensures.long in
    let there = c.long_step.ensures.prices in
    record {
      range = c.long_step.ensures.range;
      slopes = c.long_step.ensures.slopes;
      best = long_best (market_keeps market) _ (with_null c.loop-slopes.prices.items) _ _ c.loop-slopes.invariant.best long there;
      climbed = climbed_more (market_keeps market) _ _ _ _ _ _ _ c.loop-slopes.invariant.climbed long there c.least_among-step.ensures.cost;
    }
