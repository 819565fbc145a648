use Rattle.std.proofs.Common.{suc, List, ℤ, length, map, ◌∙◌, ap, ap₂, arith}
use Rattle.std.proofs.lemmas.Int.{ints}
use Rattle.mix_num.specs.Vectors.{dot_to, with_null}
use Rattle.mix_market.specs.Lyapunov.{sum_of}
use Rattle.mix_market.specs.Markets.{members_of, seller_of}
use Rattle.mix_seller.specs.Sellers.{supply_of}
use Rattle.mix_market.proofs.MarketLaws.{lyapunov-is}
use Rattle.mix_market.proofs.market.Market.lyapunov.Goals as goal

pub returns : goal.returns
returns g c =
    let market = c.args.self.now in
    let x = with_null c.args.prices.now.items in
    let members = ap (λ (z : List g.row.D.Denot). sum_of (map g.D.Convex.function z) x) c.deref.ensures.value in
    let supply = ap₂ (λ (z p : List ℤ). dot_to (suc (length z)) (with_null z) (with_null p)) (c.deref-2.ensures.0 ∙ c.supply.ensures.value) c.deref-3.ensures.0 in
    let sum = lyapunov-is (map g.D.Convex.function (members_of market)) (supply_of (seller_of market)) x in
    omega (arith, ints)
