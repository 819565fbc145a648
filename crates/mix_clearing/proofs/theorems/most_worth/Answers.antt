use Rattle.mix_clearing.proofs.Worths.{worth_most-where_clears}
use Rattle.mix_clearing.proofs.theorems.most_worth.Goals as goal

pub returns : goal.returns
returns c = λ utilities supply reserve prices bundles kept clear long. worth_most-where_clears utilities supply reserve prices bundles kept long clear
