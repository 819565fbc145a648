use Rattle.std.proofs.Common.{arith, below_more}
use Rattle.std.proofs.lemmas.Result.{err_from_is_err_and}
use Rattle.mix_check.proofs.pairs.tight_of_turn.Goals as goal

pub loop-good-preserved : goal.loop-good-preserved
loop-good-preserved c = below_more _ _ c.loop-good.invariant c.in_ok-tight_of_good.ensures.passed

pub returns-in_err-tight_of_good-clause-reason : goal.returns-in_err-tight_of_good-clause-reason
returns-in_err-tight_of_good-clause-reason c =
    let p = err_from_is_err_and c.from_residual.result c.from_residual.ensures.1 in
    rw (p.1, p.2) (record { good = c.loop-good.good; within = omega (arith, c.len-good-end.ensures); against = c.in_err-tight_of_good.ensures.reason; before = c.loop-good.invariant })
