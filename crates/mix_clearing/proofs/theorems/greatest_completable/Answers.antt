use Rattle.mix_clearing.proofs.Completions.{greatest-exactly}
use Rattle.mix_clearing.proofs.theorems.greatest_completable.Goals as goal

pub returns : goal.returns
returns c = λ utilities supply reserve prices bundles kept clear order. greatest-exactly utilities supply reserve prices order bundles kept clear
