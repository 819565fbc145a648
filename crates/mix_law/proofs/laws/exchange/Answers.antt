use Rattle.mix_law.specs.Members.{keeps_local}
use Rattle.mix_law.proofs.Exchanges.{exchange_at}
use Rattle.mix_law.proofs.laws.exchange.Goals as goal

pub returns : goal.returns
returns g c = exchange_at (keeps_local (g.D.Convex.l_natural c.args.member.now))
