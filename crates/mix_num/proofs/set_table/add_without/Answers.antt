use Rattle.std.proofs.Common.{◌≡◌, ◌∙◌, ℕ, ℤ, arith, ap, sym, subst, to_z, of_z, w64}
use Rattle.std.proofs.lemmas.Int.{ints}
use Rattle.std.proofs.lemmas.List.{length-set}
use Rattle.mix_num.specs.Ranges.{Lies}
use Rattle.mix_num.specs.Subsets.{IsWithout}
use Rattle.mix_num.proofs.ChoiceTurns.{both_of, same_sum, done_next, left_next}
use Rattle.mix_num.proofs.set_table.add_without.Goals as goal

pub with_rest-requires-clause-number : goal.with_rest-requires-clause-number
with_rest-requires-clause-number c =
    let e = c.from_bits.ensures in
    subst (λ (z : ℤ). Lies 4000000000 z) (sym (c.loop-bits.invariant.left c.from_bits.result (omega arith))) (c.requires.numbers c.from_bits.result (omega arith))

pub with_rest-requires-clause-range : goal.with_rest-requires-clause-range
with_rest-requires-clause-range c = λ rest w.
    let e = c.from_bits.ensures in
    let old = c.args.numbers.now in
    let now = c.loop-bits.numbers in
    let v = subst (λ (k : ℕ). IsWithout c.args.choice k rest) e w in
    let same = same_sum old now c.args.choice c.loop-bits.bits c.loop-bits.invariant.done c.loop-bits.invariant.left rest v in
    let range = c.requires.range c.loop-bits.bits rest (omega arith) v in
    subst (λ (k : ℕ). Lies 4000000000 (both_of now c.args.choice k rest)) (sym e) (subst (λ (z : ℤ). Lies 4000000000 z) (sym same) range)

pub loop-bits-preserved : goal.loop-bits-preserved
loop-bits-preserved c =
    let e = c.from_bits.ensures in
    let old = c.args.numbers.now in
    let now = c.loop-bits.numbers in
    let result : to_z w64 (of_z w64 c.with_rest.result) ≡ c.with_rest.result = omega (arith, ints) in
    record {
      size = length-set c.loop-bits.numbers c.loop-bits.bits _ ∙ c.loop-bits.invariant.size;
      done = done_next old now c.args.choice c.loop-bits.bits c.loop-bits.invariant.done c.loop-bits.invariant.left _ (omega arith) (λ rest w. result ∙ c.with_rest.ensures rest (subst (λ (k : ℕ). IsWithout c.args.choice k rest) (sym e) w) ∙ ap (λ (k : ℕ). both_of now c.args.choice k rest) e);
      left = left_next old now c.args.choice c.loop-bits.bits c.loop-bits.invariant.done c.loop-bits.invariant.left _;
    }
