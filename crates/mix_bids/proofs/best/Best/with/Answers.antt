use Rattle.std.proofs.Common.{◌≡◌, ◌∙◌, ap, sym, cond, eqb, false, true, of_z, to_z, w64, arith, Bool, ◌-ℤ◌, int_eq}
use Rattle.std.proofs.lemmas.Int.{ints}
use Rattle.std.specs.Int.{int_max}
use Rattle.mix_num.specs.Vectors.{members}
use Rattle.mix_bids.specs.Offers.{better as better_of, leaves as leaves_of}
use Rattle.mix_bids.proofs.best.Best.with.Goals as goal

pub overflow_sub-value : goal.overflow_sub-value
overflow_sub-value c = let r = c.requires.offer c.in-Some.value c.in-Some.is in let p = c.requires.price in omega (arith, ints, r.0, r.1, p.0, p.1)

pub with_gain-requires-clause-new : goal.with_gain-requires-clause-new
with_gain-requires-clause-new c =
    let r = c.requires.offer c.in-Some.value c.in-Some.is in
    let p = c.requires.price in
    (omega (arith, ints, r.0, r.1, p.0, p.1), omega (arith, ints, r.0, r.1, p.0, p.1))

pub returns-in-Some-clause-gain : goal.returns-in-Some-clause-gain
returns-in-Some-clause-gain c =
    let r = c.requires.offer c.in-Some.value c.in-Some.is in
    let p = c.requires.price in
    let left : to_z w64 (of_z w64 (to_z w64 (of_z w64 c.in-Some.value) -ℤ to_z w64 (of_z w64 c.args.price))) ≡ c.in-Some.value -ℤ c.args.price = omega (arith, ints, r.0, r.1, p.0, p.1) in
    c.with_gain.ensures.gain ∙ ap (int_max c.args.self.gain) left ∙ ap (λ o. better_of o c.args.price c.args.self.gain) (sym c.in-Some.is)

pub returns-in-Some-clause-set : goal.returns-in-Some-clause-set
returns-in-Some-clause-set c = λ k.
    let r = c.requires.offer c.in-Some.value c.in-Some.is in
    let p = c.requires.price in
    let g = c.with_gain.result.gain in
    let left : to_z w64 (of_z w64 (to_z w64 (of_z w64 c.in-Some.value) -ℤ to_z w64 (of_z w64 c.args.price))) ≡ c.in-Some.value -ℤ c.args.price = omega (arith, ints, r.0, r.1, p.0, p.1) in
    c.with_gain.ensures.set k
    ∙ ap (λ (b : Bool). cond (cond (eqb k c.args.choice) b false) true (cond (int_eq g c.args.self.gain) (members c.args.self.set k) false))
    (ap (λ z. int_eq z g) left ∙ ap (λ o. leaves_of o c.args.price g) (sym c.in-Some.is))
