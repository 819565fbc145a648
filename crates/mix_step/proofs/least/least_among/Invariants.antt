use Rattle.mix_num.specs.Tables.{number_of}
use Rattle.mix_step.specs.First.{IsFirst}
use Rattle.mix_step.proofs.least.least_among.Given as goal

abbrev pub invariant-loop-half : goal.invariant-loop-half
invariant-loop-half g l = IsFirst l.goods (number_of l.slopes) l.half l.best.set l.best.slope
