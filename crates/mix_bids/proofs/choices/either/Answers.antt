use Rattle.std.proofs.Common.{◌∙◌, ap, ap₂, arith, bit_or}
use Rattle.std.proofs.lemmas.Nat.{or_lt}
use Rattle.mix_num.specs.Vectors.{members}
use Rattle.mix_bids.proofs.Bits.{members_or}
use Rattle.mix_bids.proofs.choices.either.Goals as goal

pub from_bits-requires : goal.from_bits-requires
from_bits-requires c =
    let e = c.bits.ensures.range in
    let f = c.bits-2.ensures.range in
    or_lt 9 c.bits.result c.bits-2.result (omega arith) (omega arith)

pub returns : goal.returns
returns c = λ k. ap (λ z. members z k) (c.from_bits.ensures ∙ ap₂ bit_or c.bits.ensures.value c.bits-2.ensures.value) ∙ members_or c.args.first c.args.second k
