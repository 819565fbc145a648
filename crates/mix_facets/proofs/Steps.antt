-- One more element at the steps of loops: distinct numbers that are gathered, and entries that keep a fact of their place.
use Rattle.std.proofs.Common.{◌≡◌, ℕ, ◌+◌, ◌≤◌, ◌<◌, ◌⊎◌, ◌↔◌, inl, inr, ⊎_elim, List, [], ◌∷◌, ◌++◌, ℤ, arith, sym, ap, ◌∙◌, subst, Option, Some, None, length, get_or, take, Contains, All, filter_map, eq-or-lt_of_le}
use Rattle.std.specs.List.{cons_option}
use Rattle.std.proofs.lemmas.List.{take_more, take_all, get_or_push, get_or_append_left}
use Rattle.std.proofs.lemmas.List.Elements.{filter_map-append, Contains-append_left, Contains-append_right, Contains-append_cases, Contains-get_or, All-contains}
use Rattle.mix_bids.specs.declared.bid.Bid.{Bid}
use Rattle.mix_facets.proofs.Members.{contains_first}

-- ---- numbers

-- the numbers are those that a partial map makes of a list
abbrev pub AreImages : (Bid → Option ℤ) → List Bid → List ℤ → Type 0
AreImages h bs numbers = (v : ℤ) → Contains numbers v ↔ Contains (filter_map h bs) v

-- a number or none is added to the numbers
abbrev pub IsAdded : Option ℤ → List ℤ → List ℤ → Type 0
IsAdded o old new = (v : ℤ) → Contains new v ↔ (Contains old v ⊎ (o ≡ Some v))

option_of : (o : Option ℤ) (v : ℤ) → Contains (cons_option o []) v → o ≡ Some v
option_of None v h = let l = h.1 in absurd (omega arith)
option_of (Some u) v h = at h.0 h.1 h.2
  where
    at : (k : ℕ) → k < 1 → get_or (u ∷ []) k v ≡ v → Some u ≡ Some v
    at k l e = let z : k ≡ 0 = omega arith in ap Some (sym (ap (λ n. get_or (u ∷ []) n v) z) ∙ e)

option_in : (o : Option ℤ) (v : ℤ) → o ≡ Some v → Contains (cons_option o []) v
option_in None v e = absurd (cc)
option_in (Some u) v e = let q : u ≡ v = cc in contains_first [] u v q

pub images_step : (h : Bid → Option ℤ) (bs : List Bid) (k : ℕ) (b : Bid) (o : Option ℤ) (old new : List ℤ) → k < length bs → b ≡ get_or bs k b → o ≡ h b → IsAdded o old new → AreImages h (take k bs) old → AreImages h (take (k + 1) bs) new
images_step h bs k b o old new l q e s i v = (
  λ m. subst (λ (z : List ℤ). Contains z v) (sym more) (⊎_elim
      (λ n. Contains-append_left (filter_map h (take k bs)) (cons_option o []) v ((i v).0 n))
      (λ n. Contains-append_right (filter_map h (take k bs)) (cons_option o []) v (option_in o v n))
      ((s v).0 m)),
  λ m. (s v).1 (⊎_elim
      (λ n. inl ((i v).1 n))
      (λ n. inr (option_of o v n))
      (Contains-append_cases (filter_map h (take k bs)) (cons_option o []) v (subst (λ (z : List ℤ). Contains z v) more m))),
)
  where
    more : filter_map h (take (k + 1) bs) ≡ filter_map h (take k bs) ++ cons_option o []
    more = ap (filter_map h) (take_more bs k b l) ∙ filter_map-append h (take k bs) (get_or bs k b ∷ []) ∙ ap (λ z. filter_map h (take k bs) ++ cons_option z []) (ap h (sym q) ∙ sym e)

pub images_end : (h : Bid → Option ℤ) (bs : List Bid) (k : ℕ) (numbers : List ℤ) → length bs ≤ k → AreImages h (take k bs) numbers → AreImages h bs numbers
images_end h bs k numbers l i = subst (λ (z : List Bid). AreImages h z numbers) (take_all k bs l) i

-- a fact of the old numbers and of the added one is a fact of the new numbers
pub All-added : (P : ℤ → Type 0) (o : Option ℤ) (old new : List ℤ) → IsAdded o old new → ((v : ℤ) → o ≡ Some v → P v) → All P old → All P new
All-added P o old new s f g k d l = ⊎_elim (λ m. All-contains P old _ g m) (λ m. f _ m) ((s _).0 (Contains-get_or new k d l))

-- ---- entries that keep a fact of their place

pub entries_step : (P : ℕ → List ℤ → Type 0) (xs ys : List (List ℤ)) (us : List ℤ) (g : ℕ) → length xs ≡ g → ((k : ℕ) → k < g → P k (get_or xs k [])) → ys ≡ xs ++ us ∷ [] → P g us → (k : ℕ) → k < g + 1 → P k (get_or ys k [])
entries_step P xs ys us g s h e q k l = subst (λ (z : List (List ℤ)). P k (get_or z k [])) (sym e) (⊎_elim
    (λ m. subst (λ (n : ℕ). P n (get_or (xs ++ us ∷ []) n [])) (sym m) (subst (P g) (sym (get_or_push xs us [] g s)) q))
    (λ m. subst (P k) (sym (get_or_append_left xs (us ∷ []) [] k (omega arith))) (h k m))
    (let m : k ≤ g = omega arith in eq-or-lt_of_le m))
