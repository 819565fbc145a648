use Rattle.std.proofs.Common.{◌≡◌, ℕ, pos, ◌-ℤ◌, ◌≤ℤ◌, arith, ap, ap₂, subst, ◌∙◌, to_z, of_z, w64}
use Rattle.std.proofs.lemmas.Int.{ints}
use Rattle.mix_num.specs.Vectors.{with_null}
use Rattle.mix_num.specs.Ranges.{AreWithin}
use Rattle.mix_bids.specs.Bids.{facet_weight}
use Rattle.mix_facets.specs.Points.{prices_at}
use Rattle.mix_facets.proofs.Conclusions.{level_clear}
use Rattle.mix_validity.proofs.validation.refusal_at_level.Goals as goal

pub returns-then-least-ge0 : goal.returns-then-least-ge0
returns-then-least-ge0 c = λ x.
    let list = c.args.list.now in
    let level = c.args.level.now in
    let r = level_clear list level c.in_ok-grid.grid c.in_ok-grid.ensures.least (λ k h. let l = c.in_ok-least.ensures.least k h in omega (arith, ints)) x in
    subst (λ (i : ℕ). x i -ℤ x c.args.second ≡ level.difference → pos 0 ≤ℤ facet_weight list.goods i c.args.second list.bids x) c.requires.first
    (subst (λ (j : ℕ). x level.first -ℤ x j ≡ level.difference → pos 0 ≤ℤ facet_weight list.goods level.first j list.bids x) c.requires.second r)

pub returns : goal.returns
returns c =
    let list = c.args.list.now in
    let level = c.args.level.now in
    let goods = c.requires.level.goods in
    let w = c.in_ok-least.least.weight in
    let range = c.in_ok-least.ensures.range in
    let same : to_z w64 (of_z w64 w) ≡ w = omega (arith, ints, range.0, range.1) in
    let x = with_null c.price_of.result.items in
    let e = c.in_ok-least.ensures.weight x (λ k l. c.price_of.ensures.value k (omega arith) ∙ ap (λ z. prices_at level z k) c.point.ensures.value) in
    record {
      order = omega (arith, c.requires.level.order);
      within = omega (arith, c.requires.level.within);
      prices = subst (λ (n : ℕ). AreWithin 2000000 n c.price_of.result.items) goods c.price_of.ensures.range;
      weight = same ∙ e ∙ ap₂ (λ i j. facet_weight list.goods i j list.bids x) c.requires.first c.requires.second;
      negative = let n = c.if-least-ge0.false in omega (arith, ints);
    }
