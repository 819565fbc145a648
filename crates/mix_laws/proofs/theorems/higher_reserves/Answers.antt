use Rattle.mix_laws.proofs.MoreWanted.{reserves_raised}
use Rattle.mix_laws.proofs.theorems.higher_reserves.Goals as goal

pub returns : goal.returns
returns c = λ utilities supply reserve higher laws over. reserves_raised utilities supply reserve higher laws over
