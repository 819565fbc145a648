use Rattle.mix_scarcity.proofs.NegativeBids.{negative_scarcer}
use Rattle.mix_scarcity.proofs.theorems.negative_bid_added.Goals as goal

pub returns : goal.returns
returns c = λ a name bid k sound is few there open_ended. negative_scarcer a name bid k sound is few there open_ended
