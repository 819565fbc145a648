use Rattle.mix_laws.proofs.BestPrices.{best-where_least}
use Rattle.mix_laws.proofs.theorems.best_for_bidders.Goals as goal

pub returns : goal.returns
returns c = λ utilities supply reserve prices laws some are. best-where_least utilities supply reserve prices laws some are
