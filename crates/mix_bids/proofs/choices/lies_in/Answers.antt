use Rattle.std.proofs.Common.{arith, ap, ◌∙◌, eqb, ◌-◌, bit_and}
use Rattle.mix_bids.proofs.Comparisons.{lies_is}
use Rattle.mix_bids.proofs.choices.lies_in.Goals as goal

pub returns : goal.returns
returns c = λ m h.
    let e = c.bits.ensures.range in
    let f = c.bits-2.ensures.range in
    ap (λ z. eqb (bit_and z (65535 - c.bits-2.result)) 0) c.bits.ensures.value
    ∙ ap (λ z. eqb (bit_and c.args.inner (65535 - z)) 0) c.bits-2.ensures.value
    ∙ lies_is m c.args.inner c.args.outer (omega arith) (omega arith) h
