use Rattle.std.proofs.Common.{◌≡◌, ◌+ℤ◌, pos, arith, ap, ap₂, ◌∙◌, refl, Some, to_z, of_z, w64}
use Rattle.std.proofs.lemmas.Int.{ints}
use Rattle.mix_bids.specs.Leads.{lead_of}
use Rattle.mix_bids.specs.Levels.{other}
use Rattle.mix_facets.specs.Cells.{first_place as first_place_of, leads}
use Rattle.mix_facets.proofs.FirstPlaces.{first_above_at}
use Rattle.mix_facets.proofs.cells.first_place.Goals as goal

pub returns-in-Some-clause-value : goal.returns-in-Some-clause-value
returns-in-Some-clause-value c =
    let us = c.args.numbers.now in
    let v = c.level.view_is in
    let f = c.first_from.ensures in
    let r = c.in-Some.ensures.range c.in-Some.lead refl in
    let e : to_z w64 (of_z w64 (to_z w64 (of_z w64 c.in-Some.lead) +ℤ pos 1)) ≡ c.in-Some.lead +ℤ pos 1 = omega (arith, ints) in
    let p = first_above_at us c.in-Some.lead c.first_from.result f.within
    (λ k h. let b = f.below k h in omega (arith, ints))
    (λ k h l. let b = f.from k h l in omega (arith, ints)) in
    let q : Some c.in-Some.lead ≡ leads c.args.level.now.first c.args.level.now.second c.args.bid.now c.args.coordinate =
    c.in-Some.ensures.value
    ∙ ap₂ (λ d i. lead_of c.args.bid.now d i) (c.other-choice.ensures.value ∙ ap₂ (λ i j. other i j c.args.coordinate) (ap (λ z. z.first) v) (ap (λ z. z.second) v)) (ap (λ z. z.first) v) in
    p ∙ ap (first_place_of us) q
