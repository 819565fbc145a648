-- The numbers at which bids of negative weight begin to be counted, and the lowest coordinate of a good, are the candidates.
use Rattle.std.proofs.Common.{◌≡◌, ℕ, ◌+◌, ◌≤◌, ◌<◌, inl, inr, ⊎_elim, Bool, true, false, cond, eqb, List, [], ◌∷◌, ℤ, arith, sym, ap, ◌∙◌, Option, Some, None, length, get_or, Contains, All, filter_map}
use Rattle.std.proofs.lemmas.Bool.Decides.{nat_tests}
use Rattle.std.proofs.lemmas.List.Elements.{Contains-append_left, Contains-append_right, Contains-append_cases}
use Rattle.mix_bids.specs.Bids.{Book}
use Rattle.mix_facets.specs.Levels.{Level, bids_of}
use Rattle.mix_facets.specs.Points.{IsCoordinate, IsNullCoordinate}
use Rattle.mix_facets.specs.Candidates.{counting_from, lowest}
use Rattle.mix_facets.specs.Grids.{IsRising, AreCandidates}
use Rattle.mix_facets.proofs.Members.{contains_first}
use Rattle.mix_facets.proofs.Steps.{AreImages, IsAdded, All-added}

-- what stands behind the others, as a number or none
last_of : (t : Bool) (w u : ℤ) → Contains (cond t [] (w ∷ [])) u → cond t None (Some w) ≡ Some u
last_of true w u h = let l = h.1 in absurd (omega arith)
last_of false w u h = ap Some (at h.0 h.1 h.2)
  where
    at : (k : ℕ) → k < 1 → get_or (w ∷ []) k u ≡ u → w ≡ u
    at k l e = let z : k ≡ 0 = omega arith in sym (ap (λ n. get_or (w ∷ []) n u) z) ∙ e

last_in : (t : Bool) (w u : ℤ) → cond t None (Some w) ≡ Some u → Contains (cond t [] (w ∷ [])) u
last_in true w u e = absurd (cc)
last_in false w u e = let q : w ≡ u = cc in contains_first [] w u q

not_null : (c : ℕ) (w u : ℤ) → c ≡ 0 → cond (eqb c 0) None (Some w) ≡ Some u → ⊥
not_null c w u z e = let t : eqb c 0 ≡ true = grind (arith, nat_tests) in let q = sym (ap (λ b. cond b None (Some w)) t) ∙ e in cc

pub candidates_are : (book : Book) (level : Level) (c : ℕ) (o : Option ℤ) (old new : List ℤ) → AreImages (counting_from level.first c) (bids_of book level) old → o ≡ cond (eqb c 0) None (Some (lowest level.first c (bids_of book level))) → IsAdded o old new → IsRising new → length old ≤ 400 → length new ≤ length old + 1 → All IsCoordinate old → ((u : ℤ) → o ≡ Some u → IsCoordinate u) → (c ≡ 0 → All IsNullCoordinate old) → AreCandidates book level c new
candidates_are book level c o old new images e added rising few more near from null = record {
  members = λ u. (
    λ h. ⊎_elim
        (λ m. Contains-append_left front back u ((images u).0 m))
        (λ m. Contains-append_right front back u (last_in (eqb c 0) w u (sym e ∙ m)))
        ((added u).0 h),
    λ h. (added u).1 (⊎_elim
        (λ m. inl ((images u).1 m))
        (λ m. inr (e ∙ last_of (eqb c 0) w u m))
        (Contains-append_cases front back u h)),
  );
  rising = rising;
  few = omega arith;
  near = All-added IsCoordinate o old new added from near;
  null = λ z. All-added IsNullCoordinate o old new added (λ u q. absurd (not_null c w u z (sym e ∙ q))) (null z);
}
  where
    w : ℤ
    w = lowest level.first c (bids_of book level)

    front : List ℤ
    front = filter_map (counting_from level.first c) (bids_of book level)

    back : List ℤ
    back = cond (eqb c 0) [] (w ∷ [])
