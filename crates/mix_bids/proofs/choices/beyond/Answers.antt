use Rattle.std.proofs.Common.{◌∙◌, ◌-◌, ap, ap₂, arith, bit_and}
use Rattle.mix_num.specs.Vectors.{members}
use Rattle.mix_bids.proofs.Bits.{members_beyond}
use Rattle.mix_bids.proofs.choices.beyond.Goals as goal

pub returns : goal.returns
returns c = λ k.
    let e = c.bits.ensures.range in
    let f = c.bits-2.ensures.range in
    ap (λ z. members z k) (c.from_bits.ensures ∙ ap₂ (λ x y. bit_and x (65535 - y)) c.bits.ensures.value c.bits-2.ensures.value)
    ∙ members_beyond c.args.first c.args.second k (omega arith) (omega arith)
