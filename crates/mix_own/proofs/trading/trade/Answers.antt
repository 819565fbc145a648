use Rattle.std.proofs.Common.{rules, length, arith, refl, subst}
use Rattle.std.proofs.lemmas.Int.{ints}
use Rattle.mix_num.specs.Ranges.{AreWithin}
use Rattle.mix_own.proofs.NetAmounts.{net_cost}
use Rattle.mix_own.proofs.trading.trade.Goals as goal

pub returns-clause-value : goal.returns-clause-value
returns-clause-value c = search rules

pub returns-clause-range : goal.returns-clause-range
returns-clause-range c =
    let prices = c.args.prices.now.items in
    let n = length prices in
    let net = c.net-net.result.items in
    let long = c.requires.bundle.0 in
    let within = subst (λ m. AreWithin 1000000 m net) long c.net-net.ensures.range in
    let few = c.net-net.ensures.few in
    let cost = net_cost n prices net (omega (arith, few, within.0)) (refl, c.requires.prices) within in
    let payment = c.pay-payment.ensures.value in
    record {
      net = within;
      least = omega (arith, ints, cost, payment);
      most = omega (arith, ints, cost, payment);
    }
