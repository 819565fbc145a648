use Rattle.std.proofs.Common.{◌≡◌, ◌∙◌, ap, to_z, of_z, w64, List, map, pos, ◌-ℤ◌, ◌*ℤ◌, ◌≤ℤ◌, arith, subst}
use Rattle.std.proofs.lemmas.Int.{ints}
use Rattle.mix_num.specs.Vectors.{members as within, ray, with_null}
use Rattle.mix_law.specs.Members.{fall_of}
use Rattle.mix_market.specs.Extremes.{least_of}
use Rattle.mix_market.specs.Lyapunov.{sum_of}
use Rattle.mix_market.specs.Markets.{members_of, seller_of}
use Rattle.mix_seller.specs.Sellers.{supply_of}
use Rattle.mix_market.proofs.MarketLaws.{lyapunov_linear}
use Rattle.mix_market.proofs.market.Market.reach.Goals as goal

pub returns-clause-linear : goal.returns-clause-linear
returns-clause-linear g c = λ m h.
    let f = g.D.Convex.function in
    let x = with_null c.args.prices.now.items in
    let s = within c.args.set in
    let reached : pos m ≤ℤ c.reach.result = omega (arith, ints) in
    let sum = subst (λ (z : List g.row.D.Denot). sum_of (map f z) (ray x m s) ≡ sum_of (map f z) x -ℤ (pos m *ℤ fall_of (sum_of (map f z)) x s)) c.deref.ensures.value (c.reach.ensures.linear m reached) in
    lyapunov_linear (map f (members_of c.args.self.now)) (supply_of (seller_of c.args.self.now)) x s m sum

pub returns-clause-value : goal.returns-clause-value
returns-clause-value g c =
    let same : to_z w64 (of_z w64 c.reach.result) ≡ c.reach.result = omega (arith, ints, c.reach.ensures.range.0, c.reach.ensures.range.1) in
    same ∙ c.reach.ensures.value ∙ ap (least_of (λ member. g.D.Convex.reach member (with_null c.args.prices.now.items) (within c.args.set))) c.deref.ensures.value
