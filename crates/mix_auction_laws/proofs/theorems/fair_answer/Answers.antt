use Rattle.mix_auction_laws.proofs.FairAnswers.{fair}
use Rattle.mix_auction_laws.proofs.theorems.fair_answer.Goals as goal

pub returns : goal.returns
returns c = λ a sound answer is. fair a sound answer is
