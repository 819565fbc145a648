use Rattle.mix_laws.proofs.MoreWanted.{less_offered}
use Rattle.mix_laws.proofs.theorems.less_supply.Goals as goal

pub returns : goal.returns
returns c = λ utilities supply reserve less laws goods under. less_offered utilities supply reserve less laws goods under
