use Rattle.std.proofs.Common.{pos, arith}
use Rattle.std.proofs.lemmas.List.{ext_get_or}
use Rattle.mix_ties.proofs.tests.table.Goals as goal

pub returns-clause-value : goal.returns-clause-value
returns-clause-value c = ext_get_or (pos 0) _ _ (omega arith) (λ k h. c.loop-set.invariant.done k (omega arith))
