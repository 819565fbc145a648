use Rattle.std.proofs.Common.{◌≡◌, ◌∙◌, ◌+◌, ◌-◌, ◌^◌, Bool, true, false, cond, bit_and, arith, ap, ap₂, refl, ℕ}
use Rattle.mix_num.specs.Vectors.{members}
use Rattle.mix_num.proofs.Masks.{and_members, whole_members}
use Rattle.mix_cap.proofs.capped.inside.Goals as goal

pub returns-clause-members : goal.returns-clause-members
returns-clause-members c = λ k h.
    let e : c.from_bits.result ≡ bit_and c.args.set (2 ^ (c.args.n + 1) - 1) = c.from_bits.ensures ∙ ap₂ bit_and c.bits.ensures.value (c.bits-2.ensures.value ∙ c.whole.ensures) in
    ap (λ (v : ℕ). members v k) e ∙ and_members c.args.set (2 ^ (c.args.n + 1) - 1) k ∙ ap (λ (b : Bool). cond (members c.args.set k) b false) (whole_members c.args.n k (omega arith)) ∙ flat (members c.args.set k)
  where
    flat : (b : Bool) → cond b true false ≡ b
    flat true = refl
    flat false = refl
