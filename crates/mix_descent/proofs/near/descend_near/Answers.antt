use Rattle.std.proofs.Common.{◌≡◌, sym, of_z, ◌∙◌, pos, ◌-ℤ◌, ◌*ℤ◌, ◌<ℤ◌, arith, refl, to_z, w64}
use Rattle.std.proofs.lemmas.Int.{ints, clamps}
use Rattle.std.proofs.lemmas.Bool.{false≢true}
use Rattle.std.specs.Int.{int_max}
use Rattle.mix_num.specs.Vectors.{with_null}
use Rattle.mix_law.proofs.Lattice.{over_is}
use Rattle.mix_market.specs.Markets.{goods_of, reserves_of}
use Rattle.mix_market.proofs.MarketFacts.{market_keeps, reserves_within}
use Rattle.mix_descent.proofs.GuessedClimbs.{climbs_of_last, one_more_failed}
use Rattle.mix_descent.proofs.LowerStarts.{start_within, start_above, margin_left, least_above_floor}
use Rattle.mix_descent.proofs.near.descend_near.Goals as goal

pub descend-prices-requires : goal.descend-prices-requires
descend-prices-requires g c =
    let market = c.args.market.now in
    let start = c.start_below-start in
    start_within (goods_of market) c.args.guess.now.items (reserves_of market) start.result.items _ c.requires.0 start.ensures.size start.ensures.value c.requires (reserves_within market) c.loop-prices.invariant.range.0

pub returns-then-rises_where_fallen-clause-least : goal.returns-then-rises_where_fallen-clause-least
returns-then-rises_where_fallen-clause-least g c =
    let market = c.args.market.now in
    let start = c.start_below-start in
    let above = start_above (goods_of market) c.args.guess.now.items (reserves_of market) start.result.items _ c.requires.0 start.ensures.size start.ensures.value in
    least_above_floor (market_keeps market) (with_null (reserves_of market)) (with_null start.result.items) _ refl c.descend-prices.ensures.least above (c.rises_where_fallen.ensures.0 c.if-rises_where_fallen.true)

pub returns-then-rises_where_fallen-clause-cost : goal.returns-then-rises_where_fallen-clause-cost
returns-then-rises_where_fallen-clause-cost g c =
    let start = c.start_below-start in
    let way = c.descend-prices.ensures.cost in
    climbs_of_last c.loop-prices.invariant.failed way.0 _ (record { start = start.result.items; below = record { size = start.ensures.size; value = start.ensures.value }; climbs = way.1 }) _ way.2

-- a margin of 2,000,000 leaves the reserves alone, from where none may fall
pub wider-margin-requires : goal.wider-margin-requires
wider-margin-requires g c =
    let start = c.start_below-start in
    let few = margin_left (goods_of c.args.market.now) c.args.guess.now.items (reserves_of c.args.market.now) start.result.items _ c.requires.0 start.ensures.size start.ensures.value (market_keeps c.args.market.now) c.requires
    (reserves_within c.args.market.now) _ refl c.descend-prices.ensures.least (λ rises. false≢true (sym c.if-rises_where_fallen.false ∙ c.rises_where_fallen.ensures.1 rises)) in
    (c.loop-prices.invariant.range.0, omega (arith, ints, few))

pub loop-prices-smaller : goal.loop-prices-smaller
loop-prices-smaller g c =
    let start = c.start_below-start in
    let few = margin_left (goods_of c.args.market.now) c.args.guess.now.items (reserves_of c.args.market.now) start.result.items _ c.requires.0 start.ensures.size start.ensures.value (market_keeps c.args.market.now) c.requires
    (reserves_within c.args.market.now) _ refl c.descend-prices.ensures.least (λ rises. false≢true (sym c.if-rises_where_fallen.false ∙ c.rises_where_fallen.ensures.1 rises)) in
    let before = over_is (pos 2000000 -ℤ to_z w64 c.loop-prices.margin-bits) in
    let after = over_is (pos 2000000 -ℤ to_z w64 (of_z w64 c.wider-margin.result)) in
    let wider = c.wider-margin.ensures.range in
    omega (arith, ints, clamps, few, wider.0, wider.1, c.loop-prices.invariant.range.0)

pub loop-prices-preserved : goal.loop-prices-preserved
loop-prices-preserved g c =
    let start = c.start_below-start in
    let way = c.descend-prices.ensures.cost in
    let few : to_z w64 c.loop-prices.margin-bits <ℤ pos 2000000 = margin_left (goods_of c.args.market.now) c.args.guess.now.items (reserves_of c.args.market.now) start.result.items _ c.requires.0 start.ensures.size start.ensures.value (market_keeps c.args.market.now) c.requires
    (reserves_within c.args.market.now) _ refl c.descend-prices.ensures.least (λ rises. false≢true (sym c.if-rises_where_fallen.false ∙ c.rises_where_fallen.ensures.1 rises)) in
    let value = c.wider-margin.ensures.value in
    let range = c.wider-margin.ensures.range in
    let next : to_z w64 (of_z w64 c.wider-margin.result) ≡ int_max (pos 8 *ℤ to_z w64 c.loop-prices.margin-bits) (pos 1) = omega (arith, ints, clamps, value, range.0, range.1, c.loop-prices.invariant.range.0) in
    record {
      range = (omega (arith, ints, clamps, range.0, c.loop-prices.invariant.range.0, range.1), omega (arith, ints, clamps, range.0, c.loop-prices.invariant.range.0, range.1));
      failed = one_more_failed c.loop-prices.invariant.failed way.0 _ (record { start = start.result.items; below = record { size = start.ensures.size; value = start.ensures.value }; climbs = way.1 }) _ way.2 few (λ rises. false≢true (sym c.if-rises_where_fallen.false ∙ c.rises_where_fallen.ensures.1 rises)) _ next;
    }
