use Rattle.std.proofs.Common.{arith, ap}
use Rattle.std.proofs.lemmas.Int.{ints, clamps}
use Rattle.mix_bids.specs.Offers.{better as better_of}
use Rattle.mix_bids.proofs.gain.better.Goals as goal

pub overflow_sub-value : goal.overflow_sub-value
overflow_sub-value c = let r = c.requires.offer c.in-Some.value c.in-Some.is in omega (arith, ints)

pub returns-in-Some-clause-value : goal.returns-in-Some-clause-value
returns-in-Some-clause-value c =
    let r = c.requires.offer c.in-Some.value c.in-Some.is in
    let e = ap (λ o. better_of o c.args.price c.args.gain) c.in-Some.is in
    omega (arith, ints, clamps, e)

pub returns-in-Some-clause-range : goal.returns-in-Some-clause-range
returns-in-Some-clause-range c =
    let r = c.requires.offer c.in-Some.value c.in-Some.is in
    omega (arith, ints, clamps)
