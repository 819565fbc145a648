use Rattle.std.proofs.Common.{arith}
use Rattle.std.proofs.lemmas.Int.{ints}
use Rattle.mix_market.specs.Markets.{members_of}
use Rattle.mix_market.proofs.Falls.{totals_range}
use Rattle.mix_market.proofs.market.Market.total.Goals as goal

pub returns-clause-range : goal.returns-clause-range
returns-clause-range g c =
    let market = c.args.self.now in
    let range = totals_range g.D.Convex.total (members_of market) market.membership.totals in
    let few = market.membership.few in
    let is = market.summed in
    (omega (arith, ints, range.0), omega (arith, ints, range.1))
