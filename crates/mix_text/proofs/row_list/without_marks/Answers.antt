use Rattle.std.proofs.Common.{◌∙◌, ap, sym}
use Rattle.mix_text.specs.Rows.{unmarked}
use Rattle.mix_text.proofs.Marks.{unmarked_after, unmarked_same}
use Rattle.mix_text.proofs.row_list.without_marks.Goals as goal

pub loop-after-preserved : goal.loop-after-preserved
loop-after-preserved c =
    let cut = c.in-Some.ensures.cases in
    ap unmarked cut.1 ∙ unmarked_after c.loop-after.rest.now cut.0 ∙ c.loop-after.invariant

pub returns : goal.returns
returns c = sym (unmarked_same c.loop-after.rest.now c.in_default.ensures.cases) ∙ c.loop-after.invariant
