use Rattle.std.proofs.Common.{◌∙◌, ◌≡◌, ℕ, ◌^◌, ◌*◌, ◌<◌, arith, subst, to_z, of_z, w64}
use Rattle.std.proofs.lemmas.Int.{ints}
use Rattle.std.proofs.lemmas.Nat.{pow_pos}
use Rattle.mix_num.specs.Tables.{number_of}
use Rattle.mix_market.proofs.GoodsSets.{count_goods}
use Rattle.mix_step.specs.First.{IsFirst}
use Rattle.mix_step.proofs.FirstSteepest.{first_none, first_next}
use Rattle.mix_step.proofs.least.least_among.Goals as goal

pub loop-half-init : goal.loop-half-init
loop-half-init g c = first_none _ (number_of c.args.slopes.now) _ c.requires.none c.from_bits.ensures

pub loop-half-preserved : goal.loop-half-preserved
loop-half-preserved g c =
    let n = c.args.goods in
    let half = c.loop-half.half in
    let count = count_goods n in
    let below : half < 2 ^ n = omega (arith, c.bits.ensures.value, c.goods.ensures) in
    let set : c.from_bits-set.result ≡ 2 * half = omega (arith, c.from_bits-set.ensures, c.bits.ensures.range) in
    let slope : to_z w64 (of_z w64 c.at-slope.result) ≡ c.at-slope.result = omega (arith, ints, c.at-slope.ensures.range.0, c.at-slope.ensures.range.1) in
    first_next _ (number_of c.args.slopes.now) _ _ _ _ c.steeper-best.ensures below set (slope ∙ c.at-slope.ensures.value) c.loop-half.invariant

pub returns-clause-first : goal.returns-clause-first
returns-clause-first g c =
    let n = c.args.goods in
    let count = count_goods n in
    let some = pow_pos n in
    let all : c.loop-half.half ≡ 2 ^ n = omega (arith, c.bits.ensures.value, c.goods.ensures) in
    subst (λ (k : ℕ). IsFirst n (number_of c.args.slopes.now) k c.loop-half.best.set c.loop-half.best.slope) all c.loop-half.invariant
