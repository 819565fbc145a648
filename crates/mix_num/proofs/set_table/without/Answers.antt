use Rattle.std.proofs.Common.{◌≡◌, ◌∙◌, ℕ, bit_and, arith, ap, w16, ◌*◌, ◌^◌, ◌%◌}
use Rattle.std.proofs.lemmas.Nat.{and_le_l}
use Rattle.std.specs.Int.{bit_not}
use Rattle.mix_num.specs.Vectors.{members}
use Rattle.mix_num.proofs.Cleared.{cleared, cleared_less}
use Rattle.mix_num.proofs.set_table.without.Goals as goal

pub returns-clause-rest : goal.returns-clause-rest
returns-clause-rest c =
    let e : c.from_bits.result ≡ bit_and c.args.set (bit_not w16 (1 * 2 ^ c.args.choice % 2 ^ 16)) = c.from_bits.ensures ∙ ap (λ (v : ℕ). bit_and v (bit_not w16 (1 * 2 ^ c.args.choice % 2 ^ 16))) c.bits.ensures.value in
    λ k. ap (λ (v : ℕ). members v k) e ∙ cleared c.args.set c.args.choice (omega (arith, c.bits.ensures.range)) (omega arith) k

pub returns-clause-below : goal.returns-clause-below
returns-clause-below c =
    let e : c.from_bits.result ≡ bit_and c.args.set (bit_not w16 (1 * 2 ^ c.args.choice % 2 ^ 16)) = c.from_bits.ensures ∙ ap (λ (v : ℕ). bit_and v (bit_not w16 (1 * 2 ^ c.args.choice % 2 ^ 16))) c.bits.ensures.value in
    cleared_less c.args.set c.args.choice c.from_bits.result (omega (arith, e, and_le_l c.args.set (bit_not w16 (1 * 2 ^ c.args.choice % 2 ^ 16)))) (returns-clause-rest c) c.requires.inside
