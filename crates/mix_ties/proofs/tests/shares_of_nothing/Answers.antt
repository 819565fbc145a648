use Rattle.mix_ties.proofs.tests.shares_of_nothing.Goals as goal
use Rattle.mix_ties.proofs.ZeroRows.{nothing_lies, zeros_proper}

pub share-requires-clause-proper : goal.share-requires-clause-proper
share-requires-clause-proper c = zeros_proper c.args.goods c.in-Ok.tables.goods c.in-Ok.tables.rows c.in-Ok.ensures.size.0 c.in-Ok.ensures.zeros

pub share-requires-clause-lies : goal.share-requires-clause-lies
share-requires-clause-lies c = nothing_lies c.args.goods c.in-Ok.tables.goods c.in-Ok.tables.rows c.nothing.result.items c.in-Ok.ensures.size.0 c.in-Ok.ensures.zeros c.nothing.ensures
