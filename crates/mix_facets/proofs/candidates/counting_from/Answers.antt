use Rattle.std.proofs.Common.{◌≡◌, pos, ◌+ℤ◌, arith, sym, ap, ◌∙◌, length, refl, Some, to_z, of_z, w64}
use Rattle.std.proofs.lemmas.Int.{ints}
use Rattle.mix_bids.specs.Leads.{negative_lead}
use Rattle.mix_facets.proofs.NullLeads.{null_lead}
use Rattle.mix_facets.proofs.candidates.counting_from.Goals as goal

pub returns-in-Some-clause-null : goal.returns-in-Some-clause-null
returns-in-Some-clause-null c = λ u z e.
    let b = c.args.bid.now in
    let v : negative_lead b 0 c.args.first ≡ Some c.in-Some.lead = ap (λ k. negative_lead b k c.args.first) (sym z) ∙ sym c.in-Some.ensures.value in
    let l = null_lead (length b.values.items) b c.args.first c.in-Some.lead c.requires.bid.offers c.requires.first v in
    let r = c.in-Some.ensures.range c.in-Some.lead refl in
    let q : to_z w64 (of_z w64 (to_z w64 (of_z w64 c.in-Some.lead) +ℤ pos 1)) ≡ u = cc in
    (omega (arith, ints), omega (arith, ints))
