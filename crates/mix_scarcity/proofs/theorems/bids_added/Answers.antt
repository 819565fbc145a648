use Rattle.mix_scarcity.proofs.ManyBids.{all-scarcer}
use Rattle.mix_scarcity.proofs.theorems.bids_added.Goals as goal

pub returns : goal.returns
returns c = λ a bids sound are. all-scarcer a bids sound are
