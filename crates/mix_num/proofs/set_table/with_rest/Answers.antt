use Rattle.std.proofs.Common.{◌≡◌, ◌∙◌, pos, Bool, true, cond, arith, ap, sym}
use Rattle.std.proofs.lemmas.Int.{ints}
use Rattle.mix_num.specs.Vectors.{members}
use Rattle.mix_num.specs.Tables.{number_of}
use Rattle.mix_num.proofs.Cleared.{one_rest}
use Rattle.mix_num.proofs.set_table.with_rest.Goals as goal

pub overflow_add-result : goal.overflow_add-result
overflow_add-result c =
    let inside : members c.args.set c.args.choice ≡ true = sym c.has.ensures ∙ c.if-has.true in
    let range = c.requires.range c.without.result c.without.ensures.rest in
    let own = ap (λ (b : Bool). cond b (number_of c.args.numbers.now c.without.result) (pos 0)) inside in
    let e = ap (number_of c.args.numbers.now) c.bits.ensures.value in
    let f = ap (number_of c.args.numbers.now) c.bits-then-has.ensures.value in
    omega (arith, ints, range.0, range.1, c.requires.number.0, c.requires.number.1)

pub returns-then-has : goal.returns-then-has
returns-then-has c = λ rest w.
    let inside : members c.args.set c.args.choice ≡ true = sym c.has.ensures ∙ c.if-has.true in
    let range = c.requires.range c.without.result c.without.ensures.rest in
    let own = ap (λ (b : Bool). cond b (number_of c.args.numbers.now rest) (pos 0)) inside in
    let there = ap (λ (b : Bool). cond b (number_of c.args.numbers.now c.without.result) (pos 0)) inside in
    let e = ap (number_of c.args.numbers.now) c.bits.ensures.value in
    let f = ap (number_of c.args.numbers.now) c.bits-then-has.ensures.value in
    let same = ap (number_of c.args.numbers.now) (one_rest c.args.choice c.args.set c.without.result rest c.without.ensures.rest w) in
    omega (arith, ints, range.0, range.1, c.requires.number.0, c.requires.number.1)
