-- A list with a level at each difference, and no other level.
use Rattle.std.proofs.Common.{◌≡◌, ℕ, ◌≤◌, ◌<◌, ◌↔◌, List, ℤ, pos, ◌-ℤ◌, ◌<ℤ◌, refl, arith, sym, ap, ◌∙◌, subst, length, get_or, map, Contains, Any}
use Rattle.std.proofs.lemmas.Int.{ints}
use Rattle.std.proofs.lemmas.List.{get_or-map, get_or_default, length-map}
use Rattle.std.proofs.lemmas.List.Elements.{Contains-get_or}
use Rattle.mix_num.specs.Vectors.{Vector}
use Rattle.mix_bids.specs.Bids.{AreBids, Book, facet_weight}
use Rattle.mix_bids.proofs.Lengths.{over_of}
use Rattle.mix_bids.specs.Levels.{differences}
use Rattle.mix_facets.specs.Levels.{Level, level_at, IsLevelOf, AreLevelsOf}
use Rattle.mix_facets.specs.Grids.{IsRising}
use Rattle.mix_facets.proofs.Leasts.{negative_difference}
use Rattle.mix_facets.proofs.Risings.{rising_at}

-- the levels at distinct differences, when these are the differences of the bids of negative weight
pub levels_at : (book : Book) (i j : ℕ) (ds : List ℤ) (levels : List Level) → i < j → j ≤ book.goods → IsRising ds → ((d : ℤ) → Contains ds d ↔ Contains (differences i j book.bids) d) → levels ≡ map (level_at book i j) ds → AreLevelsOf book i j levels
levels_at book i j ds levels p q once same e = record {
  each = λ k d l. subst (λ (z : Level). IsLevelOf book z × (z.first ≡ i) × (z.second ≡ j)) (sym (at k d l))
      (record { goods = refl; order = p; within = q; negative = (same (get_or ds k (pos 0))).0 (Contains-get_or ds k (pos 0) (below k l)); bids = refl }, refl, refl);
  all = λ d h. let m = (same d).1 h in
      let l : m.0 < length levels = let b = m.1 in omega (arith, size) in
      (m.0, level_at book i j d, l, at m.0 (level_at book i j d) l ∙ ap (level_at book i j) (get_or_default ds m.0 (pos 0) d m.1 ∙ m.2), refl);
  once = λ k l d b m h.
      let e : get_or ds k (pos 0) ≡ get_or ds l (pos 0) = sym (ap (λ z. z.difference) (at k d (omega arith))) ∙ h ∙ ap (λ z. z.difference) (at l d m) in
      let r = rising_at ds k l once b (below l m) in
      absurd (omega (arith, ints));
}
  where
    size : length levels ≡ length ds
    size = ap length e ∙ length-map ds (level_at book i j)

    below : (k : ℕ) → k < length levels → k < length ds
    below k l = omega (arith, size)

    at : (k : ℕ) (d : Level) → k < length levels → get_or levels k d ≡ level_at book i j (get_or ds k (pos 0))
    at k d l = ap (λ z. get_or z k d) e ∙ get_or-map (level_at book i j) ds k (pos 0) d (below k l)

-- wherever the facet weight is negative, the prices of the two choices differ by the difference of a level
pub levels_negative : (book : Book) (i j : ℕ) (levels : List Level) (x : Vector) → AreBids book.goods book.bids → i < j → j ≤ book.goods → AreLevelsOf book i j levels → facet_weight book.goods i j book.bids x <ℤ pos 0 → Any (λ level. level.difference ≡ x i -ℤ x j) levels
levels_negative book i j levels x proper p q are h = are.all (x i -ℤ x j) (negative_difference book.goods i j book.bids x (over_of book.goods book.bids proper) (omega arith) q h)
