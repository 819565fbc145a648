use Rattle.mix_scarcity.proofs.ManyBids.{scarcer-chains}
use Rattle.mix_scarcity.proofs.theorems.chains.Goals as goal

pub returns : goal.returns
returns c = λ a b d first second. scarcer-chains a b d first second
