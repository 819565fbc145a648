use Rattle.std.proofs.Common.{◌≡◌, ◌∙◌, ℕ, ◌+◌, ◌-◌, ◌^◌, bit_and, arith, ap, ap₂, w16}
use Rattle.std.specs.Int.{bit_not}
use Rattle.mix_num.specs.Vectors.{members}
use Rattle.mix_num.proofs.Masks.{outside_members}
use Rattle.mix_num.proofs.set.outside.Goals as goal

pub returns-clause-members : goal.returns-clause-members
returns-clause-members c = λ k h.
    let e : c.from_bits.result ≡ bit_and (bit_not w16 c.args.set) (2 ^ (c.args.n + 1) - 1) = c.from_bits.ensures ∙ ap₂ (λ (a b : ℕ). bit_and (bit_not w16 a) b) c.bits.ensures.value (c.bits-2.ensures.value ∙ c.whole.ensures) in
    ap (λ (v : ℕ). members v k) e ∙ outside_members c.args.n c.args.set (omega arith) (omega (arith, c.bits.ensures.range)) k h
