use Rattle.mix_clearing.proofs.Fractions.{least_of_fractions-where_least_clearing}
use Rattle.mix_clearing.proofs.theorems.least_of_fractions.Goals as goal

pub returns : goal.returns
returns c = λ utilities supply reserve prices scales are. least_of_fractions-where_least_clearing utilities supply scales reserve prices are
