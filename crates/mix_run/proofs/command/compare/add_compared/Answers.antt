use Rattle.std.proofs.Common.{◌≡◌, refl, ap₂, arith, of_z, to_z, w64}
use Rattle.std.proofs.lemmas.Int.{ints}
use Rattle.std.proofs.lemmas.Result.{on_ok_weaker}
use Rattle.mix_canon.specs.declared.likeness.Likeness.TheVariants.{Differ, Equal}
use Rattle.mix_text.specs.Bidders.{list_at, name_at}
use Rattle.mix_run.specs.command.Compare.{differ_row, same_row}
use Rattle.mix_run.proofs.ComparedRows.{likeness_at, likeness_is}
use Rattle.mix_run.proofs.command.compare.add_compared.Goals as goal

pub returns-in-Equal : goal.returns-in-Equal
returns-in-Equal c =
    let bidders = c.args.auction.now.bidders in
    let e = c.in_ok-same.ensures in
    let is = likeness_is c.bidder.result.1.now c.bidder-2.result.1.now c.in_ok-same.field-0 e.equal e.differ e.first in
    let at = likeness_at (list_at bidders 0) (list_at bidders c.args.k) _ _ c.in_ok-same.field-0 Equal c.bidder.ensures.list c.bidder-2.ensures.list c.in-Equal.is is in
    on_ok_weaker c.add_same.result (λ page. (same_row (name_at bidders c.args.k), (Equal, at, refl), page)) c.add_same.ensures

pub returns-in-Differ : goal.returns-in-Differ
returns-in-Differ c =
    let bidders = c.args.auction.now.bidders in
    let e = c.in_ok-same.ensures in
    let a = c.in-Differ.first in
    let b = c.in-Differ.second in
    let l = Differ c.in-Differ.prices a b in
    let is = likeness_is c.bidder.result.1.now c.bidder-2.result.1.now c.in_ok-same.field-0 e.equal e.differ e.first in
    let at = likeness_at (list_at bidders 0) (list_at bidders c.args.k) _ _ c.in_ok-same.field-0 l c.bidder.ensures.list c.bidder-2.ensures.list c.in-Differ.is is in
    let fits : (to_z w64 (of_z w64 a) ≡ a) × (to_z w64 (of_z w64 b) ≡ b) = (omega (arith, ints, at.0.range.0.0, at.0.range.0.1), omega (arith, ints, at.0.range.1.0, at.0.range.1.1)) in
    let row = ap₂ (differ_row (name_at bidders c.args.k) c.in-Differ.prices.items) fits.0 fits.1 in
    on_ok_weaker c.add_differ.result (λ page. (_, (l, at, row), page)) c.add_differ.ensures
