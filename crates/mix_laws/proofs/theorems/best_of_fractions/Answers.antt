use Rattle.mix_clearing.proofs.FallingUtilities.{best-of_fractions}
use Rattle.mix_laws.proofs.theorems.best_of_fractions.Goals as goal

pub returns : goal.returns
returns c = λ utilities supply reserve prices scales laws some are. best-of_fractions utilities supply reserve prices scales laws some are
