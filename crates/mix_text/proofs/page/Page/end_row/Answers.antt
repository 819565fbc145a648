use Rattle.std.proofs.Common.{◌≢◌, ap, ◌<◌, length, true}
use Rattle.csv.specs.declared.writer.QuoteStyle.TheVariants as style
use Rattle.csv.specs.Records.{fields_of}
use Rattle.csv.specs.Writing.{writer_setup}
use Rattle.mix_text.specs.Pages.{PageText}
use Rattle.mix_text.proofs.PrintedRows.{page-same, row_text-plain}
use Rattle.mix_text.proofs.page.Page.end_row.Goals as goal

pub returns : goal.returns
returns c =
    let inv = c.self.invariant in
    let plain : (writer_setup c.self.inside.writer).style ≢ style.NonNumeric = rw inv.0 (λ e. cc e) in
    let h = c.in-Ok.ensures.bytes inv.1 inv.2 plain in
    let ended = ap (λ (p : PageText). p.ended) c.self.view_is in
    let fields = ap (λ (p : PageText). p.fields) c.self.view_is in
    let some : 0 < length (fields_of c.self.inside.row) = rw fields c.requires in
    let line = rw (inv.0, row_text-plain true (fields_of c.self.inside.row) some inv.4) at h in
    page-same _ _ _ _ (rw (ended, fields) at line) c.clear-2.ensures.fields
