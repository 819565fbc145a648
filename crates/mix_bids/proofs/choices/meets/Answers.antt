use Rattle.std.proofs.Common.{ap₂, ◌∙◌, eqb, not, bit_and}
use Rattle.mix_bids.proofs.Comparisons.{meets_is}
use Rattle.mix_bids.proofs.choices.meets.Goals as goal

pub returns : goal.returns
returns c = λ m h. ap₂ (λ y z. not (eqb (bit_and y z) 0)) c.bits.ensures.value c.bits-2.ensures.value ∙ meets_is m c.args.first c.args.second h
