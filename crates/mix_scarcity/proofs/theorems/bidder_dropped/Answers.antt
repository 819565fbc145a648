use Rattle.mix_scarcity.proofs.DroppedBidders.{dropped_scarcer}
use Rattle.mix_scarcity.proofs.theorems.bidder_dropped.Goals as goal

pub returns : goal.returns
returns c = λ a name sound convex. dropped_scarcer a name sound convex
