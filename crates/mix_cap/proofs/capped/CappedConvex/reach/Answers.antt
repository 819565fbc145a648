use Rattle.mix_num.specs.Vectors.{members, with_null}
use Rattle.mix_law.proofs.Linear.{step_of_one}
use Rattle.mix_cap.specs.Cappeds.{utility_of}
use Rattle.mix_cap.proofs.capped.CappedConvex.reach.Goals as goal

pub returns-clause-linear : goal.returns-clause-linear
returns-clause-linear c = step_of_one (utility_of c.args.self.now) (with_null c.args._prices.now.items) (members c.args._set)
