use Rattle.std.proofs.Common.{arith}
use Rattle.std.proofs.lemmas.Int.{ints, clamps}
use Rattle.mix_range.proofs.range.fewer.Goals as goal

pub returns-then-within-clause-some : goal.returns-then-within-clause-some
returns-then-within-clause-some c =
    let below = c.requires.some.1 c.if-within.true in
    (omega (arith, ints, clamps), omega (arith, ints, clamps))
