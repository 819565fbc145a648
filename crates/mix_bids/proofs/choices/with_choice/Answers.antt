use Rattle.std.proofs.Common.{◌∙◌, ap, ◌^◌, ◌*◌, ◌%◌, bit_or, arith}
use Rattle.mix_num.specs.Vectors.{members}
use Rattle.mix_bids.proofs.Bits.{set_bit, set_bit-lt}
use Rattle.mix_bids.proofs.choices.with_choice.Goals as goal

pub from_bits-requires : goal.from_bits-requires
from_bits-requires c = set_bit-lt _ _ 9 c.requires (omega arith) (omega arith)

pub returns-clause-members : goal.returns-clause-members
returns-clause-members c = λ k. ap (λ z. members z k) (c.from_bits.ensures ∙ ap (λ z. bit_or z (1 * 2 ^ c.args.choice % 65536)) c.bits.ensures.value) ∙ set_bit _ _ c.requires k

pub returns-clause-size : goal.returns-clause-size
returns-clause-size c = λ m h q. let e = set_bit-lt c.args.set c.args.choice m c.requires q h in rw c.from_bits.ensures (rw c.bits.ensures.value e)
