use Rattle.std.proofs.Common.{to_z, of_z, w64, ◌≡◌, ◌∙◌, ℕ, ℤ, ◌+◌, ◌-◌, ◌<◌, ◌^◌, arith, ap, sym, subst}
use Rattle.std.proofs.lemmas.Int.{ints}
use Rattle.std.proofs.lemmas.Nat.{pow_pos}
use Rattle.mix_num.specs.Moves.{IsSetOfGoods}
use Rattle.mix_num.specs.Vectors.{Choices, members, with_null}
use Rattle.mix_market.specs.LargestFalls.{Tries}
use Rattle.mix_market.specs.Markets.{goods_of, lyapunov_of}
use Rattle.mix_market.specs.Steepest.{slope_of}
use Rattle.mix_market.proofs.GoodsSets.{count_goods, even_goods}
use Rattle.mix_step.proofs.LargestSets.{IsLast, last_none, last_next, set_before}
use Rattle.mix_market.proofs.MarketFacts.{market_keeps}
use Rattle.mix_market.proofs.MarketLaws.{slope-none}
use Rattle.mix_range.specs.HighPoints.{MayRise}
use Rattle.mix_range.proofs.LargestRises.{empty_may_rise, last_rise, one_rise}
use Rattle.mix_range.proofs.largest.largest_rise.Goals as goal

pub loop-half-init : goal.loop-half-init
loop-half-init g c =
    let market = c.args.market.now in
    let n = goods_of market in
    let x = with_null c.args.prices.now.items in
    let ceiling = with_null c.args.ceiling.now.items in
    record {
      last = last_none n (MayRise n ceiling x) (slope_of (lyapunov_of market) x) c.from_bits.result (empty_may_rise n ceiling x) (slope-none (market_keeps market) x) c.from_bits.ensures;
      before = omega (arith, c.from_bits.ensures);
    }

pub loop-half-preserved : goal.loop-half-preserved
loop-half-preserved g c =
    let market = c.args.market.now in
    let n = goods_of market in
    let x = with_null c.args.prices.now.items in
    let passes : Choices → Type 0 = MayRise n (with_null c.args.ceiling.now.items) x in
    let slope = slope_of (lyapunov_of market) x in
    let half = c.loop-half.half in
    let set = c.from_bits-set.result in
    let best = c.loop-half.best in
    let next = c.tried-best.result in
    let last = c.bits.ensures.value ∙ c.goods.ensures ∙ ap (λ (k : ℕ). 2 ^ (k + 1) - 2) (c.len.ensures.value ∙ c.requires.prices.0) in
    let count = count_goods n in
    let below : half < 2 ^ n = omega (arith, c.loop-half-test.true, last, count) in
    let goods : IsSetOfGoods n set = subst (IsSetOfGoods n) (sym c.from_bits-set.ensures) (even_goods n half below) in
    let own = subst (λ (m : ℕ). Tries (MayRise m (with_null c.args.ceiling.now.items) x (members set)) set (to_z w64 (of_z w64 c.at-slope.result)) best.set best.slope next.set next.slope) c.requires.prices.0 c.tried-best.ensures in
    let range = c.at-slope.ensures.range in
    let is : to_z w64 (of_z w64 c.at-slope.result) ≡ slope (members set) = let value = c.at-slope.ensures.value ∙ c.slopes.ensures.goods set goods in omega (arith, ints, range.0, range.1, value) in
    let tries = subst (λ (v : ℤ). Tries (passes (members set)) set v best.set best.slope next.set next.slope) is own in
    record {
      last = last_next n passes slope half set best.set best.slope next.set next.slope below c.from_bits-set.ensures c.loop-half.invariant.before tries c.loop-half.invariant.last;
      before = set_before passes slope half set best.set best.slope next.set next.slope c.from_bits-set.ensures c.loop-half.invariant.before tries;
    }

pub returns-clause-largest : goal.returns-clause-largest
returns-clause-largest g c =
    let market = c.args.market.now in
    let n = goods_of market in
    let x = with_null c.args.prices.now.items in
    let ceiling = with_null c.args.ceiling.now.items in
    let last = c.bits.ensures.value ∙ c.goods.ensures ∙ ap (λ (k : ℕ). 2 ^ (k + 1) - 2) (c.len.ensures.value ∙ c.requires.prices.0) in
    let count = count_goods n in
    let some = pow_pos n in
    let all : c.loop-half.half ≡ 2 ^ n = omega (arith, last, count, some) in
    last_rise (market_keeps market) ceiling x _ _ (subst (λ (k : ℕ). IsLast n (MayRise n ceiling x) (slope_of (lyapunov_of market) x) k c.loop-half.best.set c.loop-half.best.slope) all c.loop-half.invariant.last)

pub returns-clause-only : goal.returns-clause-only
returns-clause-only g c = λ other goods largest.
    let market = c.args.market.now in
    one_rise (goods_of market) (lyapunov_of market) (with_null c.args.ceiling.now.items) (with_null c.args.prices.now.items) other c.loop-half.best.set goods.0 c.loop-half.invariant.last.small largest (returns-clause-largest g c)
