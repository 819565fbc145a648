use Rattle.mix_clearing.proofs.Ceilings.{clears-exactly}
use Rattle.mix_clearing.proofs.theorems.clears_exactly.Goals as goal

pub returns : goal.returns
returns c = λ utilities supply reserve prices can others long above. clears-exactly utilities supply reserve prices can others long above
