use Rattle.std.proofs.Common.{arith}
use Rattle.mix_num.specs.Vectors.{with_null}
use Rattle.mix_validity.proofs.validation.refusal_of.Goals as goal

pub returns : goal.returns
returns c = λ i j l m p _. c.loop-first.invariant i (omega (arith, c.goods-first-end.ensures.value, c.loop-first-test.false)) j l m (with_null p)
