use Rattle.std.proofs.Common.{suc, List, ℤ, length, map, ◌∙◌, ap, arith}
use Rattle.std.proofs.lemmas.Int.{ints}
use Rattle.mix_num.specs.Vectors.{bit, dot_to, members as within, with_null}
use Rattle.mix_law.specs.Members.{fall_of}
use Rattle.mix_market.specs.Lyapunov.{sum_of}
use Rattle.mix_market.specs.Markets.{members_of, seller_of}
use Rattle.mix_seller.specs.Sellers.{supply_of}
use Rattle.mix_market.proofs.MarketLaws.{slope-is}
use Rattle.mix_market.proofs.market.Market.slope.Goals as goal

pub returns : goal.returns
returns g c =
    let market = c.args.self.now in
    let x = with_null c.args.prices.now.items in
    let members = ap (λ (z : List g.row.D.Denot). fall_of (sum_of (map g.D.Convex.function z)) x (within c.args.set)) c.deref-2.ensures.value in
    let supply = ap (λ (z : List ℤ). dot_to (suc (length z)) (with_null z) (λ good. bit (within c.args.set good))) (c.deref.ensures.0 ∙ c.supply.ensures.value) in
    let sum = slope-is (map g.D.Convex.function (members_of market)) (supply_of (seller_of market)) x (within c.args.set) in
    omega (arith, ints)
