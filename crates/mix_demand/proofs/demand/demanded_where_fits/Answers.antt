use Rattle.mix_law.proofs.Demanded.{demanded-where_fits, fits-where_demanded}
use Rattle.mix_demand.proofs.demand.demanded_where_fits.Goals as goal

pub returns : goal.returns
returns g c = λ p table bundle long size t. (
  demanded-where_fits (g.D.Convex.l_natural c.args.member.now) p table bundle long size t,
  fits-where_demanded (g.D.Convex.l_natural c.args.member.now) p table bundle long size t,
)
