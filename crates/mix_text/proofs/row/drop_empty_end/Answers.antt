use Rattle.std.proofs.Common.{◌≡◌, ◌+◌, length, arith, ◌∙◌, sym}
use Rattle.csv.specs.Records.{fields_of}
use Rattle.mix_text.proofs.Fields.{kept-last-empty, kept-last-full, none-of, some-of}
use Rattle.mix_text.proofs.row.drop_empty_end.Goals as goal

pub returns-then-not-is_empty : goal.returns-then-not-is_empty
returns-then-not-is_empty c =
    let fs = fields_of c.loop-last.line in
    let last = c.in-Some.last in
    let at : last + 1 ≡ length fs = omega (arith, c.in-Some.ensures) in
    let some = rw c.field_of.ensures at (some-of _ (sym c.is_empty.ensures ∙ c.if-not-is_empty.true)) in
    sym (kept-last-full fs last at some) ∙ c.loop-last.invariant

pub loop-last-preserved : goal.loop-last-preserved
loop-last-preserved c =
    let fs = fields_of c.loop-last.line in
    let last = c.in-Some.last in
    let at : last + 1 ≡ length fs = omega (arith, c.in-Some.ensures) in
    let none = rw c.field_of.ensures at (none-of _ (sym c.is_empty.ensures ∙ c.if-not-is_empty.false)) in
    rw c.truncate.ensures.fields (kept-last-empty fs last at none ∙ c.loop-last.invariant)
