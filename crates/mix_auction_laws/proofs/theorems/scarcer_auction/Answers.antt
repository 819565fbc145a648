use Rattle.mix_auction_laws.proofs.AnswerPrices.{scarcer-prices}
use Rattle.mix_auction_laws.proofs.theorems.scarcer_auction.Goals as goal

pub returns : goal.returns
returns c = λ a b sound scarcer before after first second. scarcer-prices a b sound scarcer before after first second
