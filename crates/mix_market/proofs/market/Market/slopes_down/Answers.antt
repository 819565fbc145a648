use Rattle.std.proofs.Common.{not, ◌≡◌, ◌∙◌, ◌^◌, ◌+◌, ◌-◌, ◌*◌, ◌<◌, ℕ, suc, List, ℤ, ◌-ℤ◌, length, map, arith, ap, subst, to_z, of_z, w64}
use Rattle.std.proofs.lemmas.Int.{ints}
use Rattle.mix_num.specs.Vectors.{bit, dot_to, members as within, with_null}
use Rattle.mix_num.specs.Tables.{number_of}
use Rattle.mix_law.specs.Members.{fall_of}
use Rattle.mix_law.proofs.NewTables.{zero_number}
use Rattle.mix_seller.specs.Sellers.{supply_of}
use Rattle.mix_market.specs.Lyapunov.{sum_of}
use Rattle.mix_market.specs.Markets.{goods_of, members_of, seller_of}
use Rattle.mix_market.proofs.GoodsSets.{count_goods}
use Rattle.mix_market.proofs.Falls.{slope_down-by_others}
use Rattle.mix_market.proofs.MarketFacts.{market_keeps}
use Rattle.mix_market.specs.Memberships.{sum_of_totals}
use Rattle.mix_market.proofs.SlopeTables.{goods_done, next_zero, one_done, others_done}
use Rattle.mix_market.proofs.market.Market.slopes_down.Goals as goal

pub loop-half-init : goal.loop-half-init
loop-half-init g c = record { done = λ k l. absurd (none k l); others = λ set h. zero_number c.new.result set c.new.ensures }
  where
    none : (k : ℕ) → k < 0 → ⊥
    none k l = omega arith

pub add-requires : goal.add-requires
add-requires g c =
    let set = c.from_bits-set.result in
    let e : set ≡ 2 * c.loop-half.half = omega (arith, c.from_bits-set.ensures, c.bits.ensures.range) in
    let zero = ap (number_of c.loop-half.out) e ∙ next_zero c.loop-half.out _ c.loop-half.half c.loop-half.invariant in
    let falls = c.falls-falls.ensures.range c.outside.result in
    let total = c.total-total.ensures.range in
    let supplied = c.supplied.ensures.range in
    let at = c.at.ensures.value in
    (omega (arith, ints, falls.0, falls.1, supplied.0, supplied.1, total.0, total.1), omega (arith, ints, falls.0, falls.1, supplied.0, supplied.1, total.0, total.1))

pub loop-half-preserved : goal.loop-half-preserved
loop-half-preserved g c =
    let market = c.args.self.now in
    let prices = c.args.prices.now.items in
    let x = with_null prices in
    let n = length prices in
    let half = c.loop-half.half in
    let set = c.from_bits-set.result in
    let rest = c.outside.result in
    let e : set ≡ 2 * half = omega (arith, c.from_bits-set.ensures, c.bits.ensures.range) in
    let members = ap (λ (z : List g.row.D.Denot). fall_of (sum_of (map g.D.Convex.function z)) x (within rest)) c.deref.ensures.value in
    let supply = ap (λ (z : List ℤ). dot_to (suc (length z)) (with_null z) (λ good. bit (within set good))) (c.deref-in-loop-half.ensures.0 ∙ c.supply.ensures.value) in
    let outside : (k : ℕ) → k < suc (goods_of market) → within rest k ≡ not (within set k) = λ k h. c.outside.ensures.members k (omega (arith, h, c.requires.0, c.len-n.ensures.value)) in
    let down = slope_down-by_others (map g.D.Convex.function (members_of market)) (supply_of (seller_of market)) (sum_of_totals g.D.Convex.total (members_of market)) (market_keeps market) x (within set) (within rest) outside in
    let small : rest < 2 ^ suc n = subst (λ (k : ℕ). rest < 2 ^ suc k) c.len-n.ensures.value c.outside.ensures.within in
    let fall = c.falls-falls.ensures.value rest small in
    let falls = c.falls-falls.ensures.range rest in
    let total = c.total-total.ensures.range in
    let total_is = c.total-total.ensures.value in
    let supplied = c.supplied.ensures.range in
    let supplied_is = c.supplied.ensures.value in
    let at = c.at.ensures.value in
    one_done c.loop-half.out c.add.new.self _ half set (to_z w64 (of_z w64 (to_z w64 (of_z w64 (to_z w64 (of_z w64 c.total-total.result) -ℤ to_z w64 (of_z w64 c.at.result))) -ℤ to_z w64 (of_z w64 c.supplied.result)))) e
    (omega (arith, ints, falls.0, falls.1, supplied.0, supplied.1, total.0, total.1)) c.add.ensures.sum c.add.ensures.others c.loop-half.invariant

pub returns-clause-goods : goal.returns-clause-goods
returns-clause-goods g c =
    let count = count_goods (length c.args.prices.now.items) in
    let last = c.goods.ensures ∙ ap (λ (k : ℕ). 2 ^ (k + 1) - 2) c.len-n.ensures.value in
    let power = ap (λ (k : ℕ). 2 ^ k) c.requires.0 in
    goods_done (goods_of c.args.self.now) c.loop-half.out _ c.loop-half.half (omega (arith, c.bits.ensures.value, last)) c.loop-half.invariant

pub returns-clause-others : goal.returns-clause-others
returns-clause-others g c =
    let count = count_goods (length c.args.prices.now.items) in
    let last = c.goods.ensures ∙ ap (λ (k : ℕ). 2 ^ (k + 1) - 2) c.len-n.ensures.value in
    let power = ap (λ (k : ℕ). 2 ^ k) c.requires.0 in
    others_done (goods_of c.args.self.now) c.loop-half.out _ c.loop-half.half (omega (arith, c.bits.ensures.value, last)) c.loop-half.invariant
