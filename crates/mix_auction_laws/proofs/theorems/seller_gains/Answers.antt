use Rattle.mix_auction_laws.proofs.AnswerPrices.{scarcer-gains}
use Rattle.mix_auction_laws.proofs.theorems.seller_gains.Goals as goal

pub returns : goal.returns
returns c = λ a b sound scarcer supply reserve before after first second. scarcer-gains a b sound scarcer supply reserve before after first second
