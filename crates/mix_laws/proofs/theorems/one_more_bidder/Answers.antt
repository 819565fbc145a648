use Rattle.mix_laws.proofs.MoreWanted.{one_more}
use Rattle.mix_laws.proofs.theorems.one_more_bidder.Goals as goal

pub returns : goal.returns
returns c = λ before after bidder supply reserve laws law. one_more before after bidder supply reserve laws law
