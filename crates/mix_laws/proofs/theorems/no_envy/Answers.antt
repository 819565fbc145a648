use Rattle.mix_clearing.proofs.FairOutcomes.{content-where_clears}
use Rattle.mix_laws.proofs.theorems.no_envy.Goals as goal

pub returns : goal.returns
returns c = λ utilities supply reserve prices bundles kept clear. content-where_clears utilities supply reserve prices bundles kept clear
