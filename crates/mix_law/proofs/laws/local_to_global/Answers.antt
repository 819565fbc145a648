use Rattle.mix_law.specs.Members.{keeps_local}
use Rattle.mix_law.proofs.Exchanges.{local_least}
use Rattle.mix_law.proofs.Linear.{plus_linear}
use Rattle.mix_law.proofs.laws.local_to_global.Goals as goal

pub returns : goal.returns
returns g c =
    let k = keeps_local (g.D.Convex.l_natural c.args.member.now) in
    record { alone = local_least k; with_linear = λ q _. local_least (plus_linear q k) }
