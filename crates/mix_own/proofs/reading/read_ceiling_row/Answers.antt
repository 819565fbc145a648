use Rattle.std.specs.Prelude.{codes}
use Rattle.mix_answer.proofs.SpelledRows.{amounts_exact}
use Rattle.mix_own.proofs.reading.read_ceiling_row.Goals as goal

pub returns-in-Ok-clause-amounts : goal.returns-in-Ok-clause-amounts
returns-in-Ok-clause-amounts c = ((amounts_exact (codes "ceiling") c.args.goods).told _ _ c.in-Ok.ensures.read).1
