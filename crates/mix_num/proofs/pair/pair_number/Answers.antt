use Rattle.std.proofs.Common.{arith}
use Rattle.std.proofs.lemmas.Int.{ints}
use Rattle.mix_num.proofs.pair.pair_number.Goals as goal

pub returns-clause-value : goal.returns-clause-value
returns-clause-value c =
    let n = c.requires.number in
    let f = c.requires.floor in
    let a = c.amount_before-upper.ensures in
    let b = c.amount_before-lower.ensures in
    omega (arith, ints, n.0, n.1, f.0, f.1, a.value, a.range.0, a.range.1, b.value, b.range.0, b.range.1)
