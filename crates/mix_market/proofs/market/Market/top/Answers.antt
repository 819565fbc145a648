use Rattle.std.proofs.Common.{◌≡◌, ◌∙◌, ◌-◌, ℕ, suc, List, ℤ, pos, get_or, slice_index_or, arith, ap, to_z, of_z, w64}
use Rattle.std.proofs.lemmas.Int.{ints}
use Rattle.mix_market.specs.Extremes.{greatest_of}
use Rattle.mix_market.specs.Markets.{members_of}
use Rattle.mix_market.proofs.MemberExtremes.{greatest_covers}
use Rattle.mix_market.proofs.market.Market.top.Goals as goal

pub returns-clause-value : goal.returns-clause-value
returns-clause-value g c =
    let market = c.args.self.now in
    let good = c.args.good in
    let place : ℕ = good - 1 in
    let range = market.priced.ranges.1 place (pos 0) (omega arith) in
    let e = ap (λ (z : List ℤ). slice_index_or z place (pos 0)) c.deref.ensures.0 in
    let same : to_z w64 (of_z w64 (slice_index_or c.deref.result.now place (pos 0))) ≡ get_or market.tops.items place (pos 0) = omega (arith, ints, range.0, range.1, e) in
    let next : suc place ≡ good = omega arith in
    same ∙ market.priced.greatest place (omega arith) ∙ ap (λ (k : ℕ). greatest_of (λ member. g.D.Convex.top member k) (members_of market)) next

pub returns-clause-above : goal.returns-clause-above
returns-clause-above g c = λ k d l.
    let covers = greatest_covers (λ member. g.D.Convex.top member c.args.good) (members_of c.args.self.now) k d l in
    let value = returns-clause-value g c in
    omega (arith, ints)
