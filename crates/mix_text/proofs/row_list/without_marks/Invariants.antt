use Rattle.std.proofs.Common.{◌≡◌, length}
use Rattle.mix_text.specs.Rows.{unmarked}
use Rattle.mix_text.proofs.row_list.without_marks.Given as goal

abbrev pub invariant-loop-after : goal.invariant-loop-after
invariant-loop-after l = unmarked l.rest ≡ unmarked l.initial.rest

abbrev pub decreases-loop-after : goal.decreases-loop-after
decreases-loop-after l = length l.rest
