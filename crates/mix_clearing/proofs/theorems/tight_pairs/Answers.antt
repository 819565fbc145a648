use Rattle.mix_clearing.proofs.TieRules.{pairs_keep_rule}
use Rattle.mix_clearing.proofs.theorems.tight_pairs.Goals as goal

pub returns : goal.returns
returns c = λ utilities supply reserve prices order bundles kept laws ordered stock clear tight.
    pairs_keep_rule utilities supply reserve prices order laws ordered stock bundles clear.sizes tight
