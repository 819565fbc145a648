use Rattle.std.proofs.Common.{◌≡◌, ◌∙◌, ℕ, ℤ, pos, List, arith, ap, sym, refl}
use Rattle.std.proofs.lemmas.Int.{ints}
use Rattle.mix_num.specs.Vectors.{members, with_null}
use Rattle.mix_seller.specs.declared.seller.Seller.{Seller}
use Rattle.mix_seller.specs.Sellers.{reserve_of}
use Rattle.mix_market.specs.Markets.{goods_of, lyapunov_of, seller_of}
use Rattle.mix_market.specs.Steepest.{slope_of}
use Rattle.mix_step.proofs.Climbs.{end_least, start_best}
use Rattle.mix_market.proofs.MarketFacts.{market_keeps}
use Rattle.mix_market.proofs.MarketLaws.{slope-none}
use Rattle.mix_range.proofs.tests.greatest_at.Goals as goal

pub greatest-requires-clause-least : goal.greatest-requires-clause-least
greatest-requires-clause-least g c =
    let market = c.args.market.now in
    let keeps = market_keeps market in
    let start = with_null (reserve_of (seller_of market)) in
    let low = with_null c.reserve-low.result.now.items in
    let empty : c.least_step-step.result.set ≡ 0 = sym c.bits.ensures.value ∙ c.if-bits-eq0.true in
    let none = ap (λ (set : ℕ). slope_of (lyapunov_of market) low (members set)) empty ∙ slope-none keeps low in
    let same = sym (c.reserve-low.ensures.value ∙ ap (λ (seller : Seller). reserve_of seller) c.seller.ensures) in
    end_least keeps start low (start_best keeps start low (λ k h. ap (λ (z : List ℤ). with_null z k) same)) refl (λ t h. let up = c.least_step-step.ensures.minimal.steepest t h in omega (arith, ints))
