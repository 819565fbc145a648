use Rattle.std.proofs.Common.{arith, ap₂, ap, ◌∙◌, ◌≡◌, sym, Some, ◌-ℤ◌, to_z, of_z, w64}
use Rattle.std.proofs.lemmas.Int.{ints}
use Rattle.mix_bids.specs.Leads.{lead as lead_between}
use Rattle.mix_bids.proofs.leads.margin.Goals as goal

pub overflow_sub-result : goal.overflow_sub-result
overflow_sub-result c =
    let r = c.requires.greater c.in-Some-Some.greater c.in-Some-Some.is-0 in
    let s = c.requires.lesser c.in-Some-Some.lesser c.in-Some-Some.is-1 in
    omega (arith, ints)

pub returns-in-Some-Some-clause-value : goal.returns-in-Some-Some-clause-value
returns-in-Some-Some-clause-value c =
    let r = c.requires.greater c.in-Some-Some.greater c.in-Some-Some.is-0 in
    let s = c.requires.lesser c.in-Some-Some.lesser c.in-Some-Some.is-1 in
    let e : to_z w64 (of_z w64 (to_z w64 (of_z w64 c.in-Some-Some.greater) -ℤ to_z w64 (of_z w64 c.in-Some-Some.lesser))) ≡ c.in-Some-Some.greater -ℤ c.in-Some-Some.lesser = omega (arith, ints) in
    ap Some e ∙ sym (ap₂ lead_between c.in-Some-Some.is-0 c.in-Some-Some.is-1)

pub returns-in-Some-Some-clause-range : goal.returns-in-Some-Some-clause-range
returns-in-Some-Some-clause-range c v e =
    let r = c.requires.greater c.in-Some-Some.greater c.in-Some-Some.is-0 in
    let s = c.requires.lesser c.in-Some-Some.lesser c.in-Some-Some.is-1 in
    let q : to_z w64 (of_z w64 (to_z w64 (of_z w64 c.in-Some-Some.greater) -ℤ to_z w64 (of_z w64 c.in-Some-Some.lesser))) ≡ v = cc in
    omega (arith, ints)
