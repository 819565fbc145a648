use Rattle.mix_scarcity.proofs.HigherCaps.{raised_scarcer}
use Rattle.mix_scarcity.proofs.theorems.cap_raised.Goals as goal

pub returns : goal.returns
returns c = λ a k old new sound below had more. raised_scarcer a sound k below old new had more
