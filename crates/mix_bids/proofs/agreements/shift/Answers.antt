use Rattle.std.proofs.Common.{arith, ap₂, ◌∙◌, ◌≡◌, sym, ◌-ℤ◌, to_z, of_z, w64}
use Rattle.std.proofs.lemmas.Int.{ints}
use Rattle.mix_bids.specs.Leads.{lead}
use Rattle.mix_bids.specs.Shared.{shift_number}
use Rattle.mix_bids.proofs.agreements.shift.Goals as goal

pub overflow_sub-result : goal.overflow_sub-result
overflow_sub-result c =
    let r = c.requires.earlier c.in-Some-Some.earlier c.in-Some-Some.is-0 in
    let s = c.requires.new c.in-Some-Some.new c.in-Some-Some.is-1 in
    omega (arith, ints)

pub returns-in-Some-Some-clause-value : goal.returns-in-Some-Some-clause-value
returns-in-Some-Some-clause-value c =
    let r = c.requires.earlier c.in-Some-Some.earlier c.in-Some-Some.is-0 in
    let s = c.requires.new c.in-Some-Some.new c.in-Some-Some.is-1 in
    let e : to_z w64 (of_z w64 (to_z w64 (of_z w64 c.in-Some-Some.earlier) -ℤ to_z w64 (of_z w64 c.in-Some-Some.new))) ≡ c.in-Some-Some.earlier -ℤ c.in-Some-Some.new = omega (arith, ints) in
    e ∙ sym (ap₂ (λ x y. shift_number c.args.choice (lead x y)) c.in-Some-Some.is-0 c.in-Some-Some.is-1)

pub returns-in-Some-Some-clause-range : goal.returns-in-Some-Some-clause-range
returns-in-Some-Some-clause-range c =
    let r = c.requires.earlier c.in-Some-Some.earlier c.in-Some-Some.is-0 in
    let s = c.requires.new c.in-Some-Some.new c.in-Some-Some.is-1 in
    (omega (arith, ints), omega (arith, ints))
