use Rattle.std.proofs.Common.{◌∙◌}
use Rattle.mix_text.proofs.Fields.{field-get}
use Rattle.csv.specs.Records.{fields_of}
use Rattle.mix_text.proofs.row.field_of.Goals as goal

pub returns-in-Some : goal.returns-in-Some
returns-in-Some c = let e = c.in-Some.ensures.value ∙ field-get (fields_of c.args.line.now) c.args.k c.requires in cc e

pub returns-in-None : goal.returns-in-None
returns-in-None c = let e = c.in-None.ensures.value ∙ field-get (fields_of c.args.line.now) c.args.k c.requires in cc e
