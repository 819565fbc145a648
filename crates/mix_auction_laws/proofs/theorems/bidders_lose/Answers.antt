use Rattle.mix_auction_laws.proofs.AnswerPrices.{scarcer-loses}
use Rattle.mix_auction_laws.proofs.theorems.bidders_lose.Goals as goal

pub returns : goal.returns
returns c = λ a b sound scarcer before after first second k below. scarcer-loses a b sound scarcer before after first second k below
