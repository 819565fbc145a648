use Rattle.mix_law.specs.Members.{keeps_local}
use Rattle.mix_law.proofs.Midpoint.{rising}
use Rattle.mix_law.proofs.laws.slopes.Goals as goal

pub returns : goal.returns
returns g c = rising (keeps_local (g.D.Convex.l_natural c.args.member.now))
