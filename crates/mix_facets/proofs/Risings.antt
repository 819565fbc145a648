-- Rising numbers: where one lies in them, and one more that is put in its place.
use Rattle.std.proofs.Common.{◌≡◌, ◌≢◌, ℕ, zero, suc, ◌≤◌, ◌<◌, ◌⊎◌, ◌↔◌, inl, inr, ⊎_elim, List, ◌∷◌, ℤ, pos, ◌≤ℤ◌, ◌<ℤ◌, arith, sym, ap, ◌∙◌, subst, Some, length, get_or, take, drop, Contains, add-one}
use Rattle.std.proofs.lemmas.Int.{ints}
use Rattle.std.proofs.lemmas.Bool.{cases_lt, cases_order}
use Rattle.std.proofs.lemmas.List.{get_or_default, take-append-drop}
use Rattle.std.proofs.lemmas.List.Elements.{Contains-append_left, Contains-append_right, Contains-append_cases}
use Rattle.std.proofs.lemmas.List.Edits.{length-insert, get_or-insert_below, get_or-insert_at, get_or-insert_above}
use Rattle.std.specs.List.{insert}
use Rattle.mix_facets.specs.Grids.{IsRising}
use Rattle.mix_facets.proofs.Members.{contains_first, contains_later}

-- a number and a later one
pub rising_at : (us : List ℤ) (k l : ℕ) → IsRising us → k < l → l < length us → get_or us k (pos 0) <ℤ get_or us l (pos 0)
rising_at us k l rising h q = rising k l (pos 0) h q

-- all from a place on are at least what is at most the number there
pub rising_from : (us : List ℤ) (p k : ℕ) (b : ℤ) → IsRising us → b ≤ℤ get_or us p (pos 0) → p ≤ k → k < length us → b ≤ℤ get_or us k (pos 0)
rising_from us p k b rising h l m = ⊎_elim
    (λ e. let q = ap (λ z. get_or us z (pos 0)) e in omega (arith, ints))
    (λ o. ⊎_elim (λ q. let r = rising_at us p k rising q m in omega (arith, ints)) (λ q. absurd (omega arith)) o)
    (cases_order p k)

-- ---- one more

-- a place between the numbers below v and those above it
pub record IsPlaceOf (us : List ℤ) (p : ℕ) (v : ℤ) : Type 0 where
  pub within : p ≤ length us
  pub below : (k : ℕ) → k < p → get_or us k (pos 0) <ℤ v
  pub above : (k : ℕ) → p ≤ k → k < length us → v <ℤ get_or us k (pos 0)

-- the place of the first number that is at least v, which isn't v
pub place_at : (us : List ℤ) (p : ℕ) (v : ℤ) → IsRising us → p ≤ length us → ((k : ℕ) → k < p → get_or us k (pos 0) <ℤ v) → ((k : ℕ) → p ≤ k → k < length us → v ≤ℤ get_or us k (pos 0)) → (p < length us → get_or us p (pos 0) ≢ v) → IsPlaceOf us p v
place_at us p v rising within below from absent = record {
  within = within;
  below = below;
  above = λ k h q. ⊎_elim
      (λ e. let r = from k h q in
      let s : get_or us k (pos 0) ≢ v = λ z. absent (omega arith) (ap (λ n. get_or us n (pos 0)) e ∙ z) in
      omega (arith, ints))
      (λ o. ⊎_elim
      (λ l. let r = from p (omega arith) (omega arith) in let s = rising_at us p k rising l q in omega (arith, ints))
      (λ l. absurd (omega arith)) o)
      (cases_order p k);
}

pub rising_insert : (us : List ℤ) (p : ℕ) (v : ℤ) → IsRising us → IsPlaceOf us p v → IsRising (insert us p v)
rising_insert us p v rising is k l d h q =
    let size = length-insert us p v is.within in
    let a = get_or_default (insert us p v) k d (pos 0) (omega arith) in
    let b = get_or_default (insert us p v) l d (pos 0) q in
    let r = at k l h (omega arith) in
    omega (arith, ints)
  where
    low : (k : ℕ) → k < p → get_or (insert us p v) k (pos 0) ≡ get_or us k (pos 0)
    low k h = get_or-insert_below us p v (pos 0) k h is.within

    here : (k : ℕ) → k ≡ p → get_or (insert us p v) k (pos 0) ≡ v
    here k e = ap (λ z. get_or (insert us p v) z (pos 0)) e ∙ get_or-insert_at us p v (pos 0) is.within

    high : (k : ℕ) → p ≤ k → get_or (insert us p v) (suc k) (pos 0) ≡ get_or us k (pos 0)
    high k h = ap (λ z. get_or (insert us p v) z (pos 0)) (sym (add-one k)) ∙ get_or-insert_above us p v (pos 0) k h is.within

    at : (k l : ℕ) → k < l → l < suc (length us) → get_or (insert us p v) k (pos 0) <ℤ get_or (insert us p v) l (pos 0)
    at k zero h q = absurd (omega arith)
    at k (suc l) h q = ⊎_elim
        (λ a. ⊎_elim
        (λ b. let e = low k a in let f = low (suc l) b in let r = rising_at us k (suc l) rising h (omega (arith, is.within)) in omega (arith, ints))
        (λ b. ⊎_elim
        (λ c. let e = low k a in let f = here (suc l) c in let r = is.below k a in omega (arith, ints))
        (λ c. ⊎_elim (λ m. absurd (omega arith)) (λ m. let e = low k a in let f = high l (omega arith) in let r = is.below k a in let s = is.above l (omega arith) (omega arith) in omega (arith, ints)) c)
        (cases_order (suc l) p))
        (cases_lt (suc l) p))
        (λ a. by_place k a h)
        (cases_lt k p)
      where
        by_place : (k : ℕ) → p ≤ k → k < suc l → get_or (insert us p v) k (pos 0) <ℤ get_or (insert us p v) (suc l) (pos 0)
        by_place k a h = ⊎_elim
            (λ e. let f = here k e in let g = high l (omega arith) in let r = is.above l (omega arith) (omega arith) in omega (arith, ints))
            (λ o. ⊎_elim (λ m. absurd (omega arith)) (λ m. later k m h) o)
            (cases_order k p)
          where
            later : (k : ℕ) → p < k → k < suc l → get_or (insert us p v) k (pos 0) <ℤ get_or (insert us p v) (suc l) (pos 0)
            later zero m h = absurd (omega arith)
            later (suc k) m h = let e = high k (omega arith) in let f = high l (omega arith) in let r = rising_at us k l rising (omega arith) (omega arith) in omega (arith, ints)

-- what is there afterwards
pub contains_insert : (us : List ℤ) (p : ℕ) (v w : ℤ) → Contains (insert us p v) w ↔ (Contains us w ⊎ (Some v ≡ Some w))
contains_insert us p v w = (
  λ h. ⊎_elim
      (λ m. inl (subst (λ (z : List ℤ). Contains z w) (take-append-drop p us) (Contains-append_left (take p us) (drop p us) w m)))
      (λ m. first m)
      (Contains-append_cases (take p us) (v ∷ drop p us) w h),
  ⊎_elim
      (λ m. ⊎_elim
      (λ q. Contains-append_left (take p us) (v ∷ drop p us) w q)
      (λ q. Contains-append_right (take p us) (v ∷ drop p us) w (contains_later (drop p us) v w q))
      (Contains-append_cases (take p us) (drop p us) w (subst (λ (z : List ℤ). Contains z w) (sym (take-append-drop p us)) m)))
      (λ e. let q : v ≡ w = cc in Contains-append_right (take p us) (v ∷ drop p us) w (contains_first (drop p us) v w q)),
)
  where
    first : Contains (v ∷ drop p us) w → Contains us w ⊎ (Some v ≡ Some w)
    first (zero, l, e) = inr (ap Some e)
    first (suc k, l, e) = inl (subst (λ (z : List ℤ). Contains z w) (take-append-drop p us) (Contains-append_right (take p us) (drop p us) w (k, omega arith, e)))
