use Rattle.mix_scarcity.proofs.AddedBids.{added_scarcer}
use Rattle.mix_scarcity.proofs.theorems.bid_added.Goals as goal

pub returns : goal.returns
returns c = λ a name bid sound is some open_ended. added_scarcer a name bid sound is some open_ended
