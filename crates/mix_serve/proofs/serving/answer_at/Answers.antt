use Rattle.std.proofs.Common.{◌≡◌, ◌∙◌, ℕ, List, ℤ, map, sym, subst, arith, []}
use Rattle.std.proofs.lemmas.Int.{ints}
use Rattle.std.proofs.lemmas.List.{get_or-map, length-map}
use Rattle.std.proofs.lemmas.List.Elements.{All-weaker}
use Rattle.mix_num.specs.Ranges.{AreWithin, Lies}
use Rattle.mix_num.specs.Sellers.{AreAmounts, IsAmount}
use Rattle.mix_seller.specs.Sellers.{for_sale, reserve_of, supply_of}
use Rattle.mix_market.specs.Markets.{goods_of, members_of, seller_of}
use Rattle.mix_clearing.proofs.ClearedAmounts.{bundle-amounts}
use Rattle.mix_clearing.proofs.MarketUtilities.{market_lawful}
use Rattle.mix_serve.proofs.serving.answer_at.Goals as goal

-- amounts lie within the range of a bundle
amounts_within : (n m : ℕ) (xs : List ℤ) → m ≡ n → AreAmounts n xs → AreWithin 8000000 m xs
amounts_within n m xs e h = (h.0 ∙ sym e, All-weaker IsAmount (Lies 8000000) (λ x a. (omega (arith, ints, a.0), omega (arith, ints, a.1))) xs h.1)

pub charge-requires-clause-bundles : goal.charge-requires-clause-bundles
charge-requires-clause-bundles c = λ k d h.
    let market = c.args.market.now in
    let sale = for_sale (seller_of market) in
    let found = c.requires.range in
    let bundles = c.in_ok-sharing.sharing.bundles.items in
    let solution = c.in_ok-sharing.ensures.solution in
    let count = solution.clear.count in
    let size = length-map bundles (λ b. b.items) in
    let amounts = bundle-amounts (map _ (members_of market)) (supply_of (seller_of market)) (reserve_of (seller_of market)) c.args.prices.now.items (map (λ b. b.items) bundles) c.in_ok-sharing.sharing.returns.items
    sale.some sale.supplies.1 (market_lawful market) solution.clear k (omega arith) in
    amounts_within (goods_of market) _ _ found.0 (subst (λ (x : List ℤ). AreAmounts (goods_of market) x) (get_or-map (λ b. b.items) bundles k d [] h) amounts)
