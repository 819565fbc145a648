use Rattle.mix_auction_laws.proofs.OtherOrders.{same-prices}
use Rattle.mix_auction_laws.proofs.theorems.reordered.Goals as goal

pub returns : goal.returns
returns c = λ a b order first_sound second_sound turned before after first second. same-prices a b order turned before after first second
