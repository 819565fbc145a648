use Rattle.mix_law.specs.Members.{keeps_local}
use Rattle.mix_law.proofs.Exchanges.{submodular_sets}
use Rattle.mix_law.proofs.laws.submodular.Goals as goal

pub returns : goal.returns
returns g c = submodular_sets (keeps_local (g.D.Convex.l_natural c.args.member.now))
