-- Bidders of whom one is taken out, with its cap: the others keep their names, their bids and their caps.
use Rattle.std.proofs.Common.{◌≡◌, ◌<◌, ◌≤◌, ◌+◌, ℕ, zero, suc, ℤ, List, [], ◌∷◌, length, get_or, sym, ◌∙◌, ap, arith, refl, subst, true, false, inl, inr, nat_lt, cond, Option, None, All}
use Rattle.std.specs.List.{remove}
use Rattle.std.specs.Str.{bytes_eq}
use Rattle.std.proofs.lemmas.Bool.{cases_Bool}
use Rattle.std.proofs.lemmas.Bool.Decides.{nat_tests}
use Rattle.std.proofs.lemmas.List.Edits.{get_or-remove_above, get_or-remove_below, length-remove}
use Rattle.mix_bids.specs.Bids.{Book}
use Rattle.mix_bids.specs.Caps.{ArePositive}
use Rattle.mix_text.specs.Bidders.{Named}
use Rattle.mix_text.specs.Caps.{AreCaps, no_caps}
use Rattle.mix_text.specs.Names.{AreNames, is_among}
use Rattle.mix_text.specs.Spelling.{is_name}
use Rattle.mix_text.proofs.Gathering.{Unlike, different_same}
use Rattle.mix_text.proofs.OwnPlaces.{unlike_names}
use Rattle.mix_text.proofs.SoundAuctions.{not_alike}

-- where one stood who is now at j
abbrev place_before : ℕ → ℕ → ℕ
place_before k j = cond (nat_lt j k) j (j + 1)

at_left : {X : Type 0} (xs : List X) (k j : ℕ) (d : X) → k < length xs → get_or (remove xs k) j d ≡ get_or xs (place_before k j) d
at_left xs k j d h = elim (cases_Bool (nat_lt j k)) [
  | inl t ↦ (let b : j < k = grind (arith, nat_tests) in rw t (get_or-remove_below xs k d j b h))
  | inr f ↦ (let b : k ≤ j = grind (arith, nat_tests) in rw f (get_or-remove_above xs k d j b h))
]

before_below : (m k j : ℕ) → j + 1 < m → place_before k j < m
before_below m k j h = elim (cases_Bool (nat_lt j k)) [
  | inl t ↦ rw t (omega (arith, h))
  | inr f ↦ rw f (omega (arith, h))
]

-- what holds of each holds of each that is left
pub all_left : {X : Type 0} (P : X → Type 0) (xs : List X) (k : ℕ) → k < length xs → All P xs → All P (remove xs k)
all_left P xs k h all j d l =
    let size = length-remove xs k h in
    subst P (sym (at_left xs k j d h)) (all (place_before k j) d (before_below (length xs) k j (omega (arith, size, l))))

among_left : (y : List ℕ) (names : List (List ℕ)) (k : ℕ) → is_among y names ≡ false → is_among y (remove names k) ≡ false
among_left y [] zero h = refl
among_left y [] (suc k) h = refl
among_left y (x ∷ xs) zero h = (not_alike (bytes_eq y x) (is_among y xs) h).1
among_left y (x ∷ xs) (suc k) h = let s = not_alike (bytes_eq y x) (is_among y xs) h in rw s.0 (among_left y xs k s.1)

unlike_left : (names : List (List ℕ)) (k : ℕ) → Unlike names → Unlike (remove names k)
unlike_left [] zero u = tt
unlike_left [] (suc k) u = tt
unlike_left (x ∷ xs) zero u = u.1
unlike_left (x ∷ xs) (suc k) u = (among_left x xs k u.0, unlike_left xs k u.1)

-- names of which one is taken out
pub names_left : (names : List (List ℕ)) (k : ℕ) → k < length names → AreNames names → AreNames (remove names k)
names_left names k h are = record {
  form = all_left (λ name. is_name name ≡ true) names k h are.form;
  unlike = different_same (remove names k) (unlike_left names k (unlike_names names are));
}

-- caps of which one is taken out are those of the bidders who are left
pub caps_left : (bidders : Named) (caps : List (Option ℤ)) (k : ℕ) → k < length bidders → AreCaps bidders caps → AreCaps (remove bidders k) (remove caps k)
caps_left bidders caps k h are =
    let size = are.size in
    let c : k < length caps = omega (arith, size, h) in
    record {
      size = let p = length-remove bidders k h in let q = length-remove caps k c in omega (arith, p, q, size);
      range = λ j cap e. are.range (place_before k j) cap (sym (at_left caps k j None c) ∙ e);
      positive = λ j cap e.
          subst (λ (bidder : List ℕ × Book). ArePositive bidder.1.bids) (sym (at_left bidders k j ([], record { goods = 0; bids = [] }) h)) (are.positive (place_before k j) cap (sym (at_left caps k j None c) ∙ e));
    }

-- of bidders without caps those who are left have none
pub no_caps_left : (m k : ℕ) → k ≤ m → remove (no_caps (suc m)) k ≡ no_caps m
no_caps_left m zero h = refl
no_caps_left zero (suc k) h = absurd (omega (arith, h))
no_caps_left (suc m) (suc k) h = ap (λ rest. None ∷ rest) (no_caps_left m k (omega (arith, h)))
