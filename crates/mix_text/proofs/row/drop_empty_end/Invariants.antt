use Rattle.std.proofs.Common.{◌≡◌, length}
use Rattle.csv.specs.Records.{fields_of}
use Rattle.mix_text.specs.Rows.{kept}
use Rattle.mix_text.proofs.row.drop_empty_end.Given as goal

abbrev pub invariant-loop-last : goal.invariant-loop-last
invariant-loop-last l = kept (fields_of l.line) ≡ kept (fields_of l.initial.line)

abbrev pub decreases-loop-last : goal.decreases-loop-last
decreases-loop-last l = length (fields_of l.line)
