-- What was shared in tie order, put back one by one at the places of the members.
use Rattle.std.proofs.Common.{◌≡◌, ◌≢◌, ℕ, zero, suc, ◌+◌, ◌*◌, ◌/◌, ◌%◌, ◌<◌, ◌≤◌, ◌⊎◌, inl, inr, List, ℤ, [], length, get_or, set, sym, ap, ◌∙◌, subst, arith, eq-or-lt_of_le}
use Rattle.std.proofs.Math.Nat.{div-lt_iff_lt-mul, mod-lt}
use Rattle.std.proofs.lemmas.Nat.{div-add-mod', div-mul-add, mod-mul-add, mul-add-lt}
use Rattle.std.proofs.lemmas.List.{ext_get_or, get_or-set_other, get_or-set_same, length-map}
use Rattle.mix_num.specs.Orders.{in_order, place_at}
use Rattle.mix_num.proofs.Orders.{get-in_order}
use Rattle.mix_text.specs.Orders.{IsTieOrder}

-- ---- one entry for each member
pub one_more_bundle : {A : Type 0} (m : ℕ) (order : List ℕ) (shared old new : List A) (d x : A) (turn : ℕ) → IsTieOrder m order → turn < m → length old ≡ m
    → x ≡ get_or shared turn d → new ≡ set old (place_at order turn) x
    → ((k : ℕ) → k < turn → get_or old (place_at order k) d ≡ get_or shared k d)
    → (k : ℕ) → k < turn + 1 → get_or new (place_at order k) d ≡ get_or shared k d
one_more_bundle m order shared old new d x turn tie here count is written before k h = at (eq-or-lt_of_le (let le : k ≤ turn = omega arith in le))
  where
    at : (k ≡ turn) ⊎ (k < turn) → get_or new (place_at order k) d ≡ get_or shared k d
    at (inl e) =
        ap (λ (xs : List _). get_or xs (place_at order k) d) written
        ∙ ap (λ (i : ℕ). get_or (set old (place_at order turn) x) (place_at order i) d) e
        ∙ get_or-set_same old (place_at order turn) x d (let w = tie.within turn here in omega (arith, w, count))
        ∙ is
        ∙ ap (λ (i : ℕ). get_or shared i d) (sym e)
    at (inr l) =
        ap (λ (xs : List _). get_or xs (place_at order k) d) written
        ∙ get_or-set_other old (place_at order turn) (place_at order k) x d (λ e. let same = tie.once k turn (omega arith) here e in omega arith)
        ∙ before k l

-- all are back
pub all_back : (m : ℕ) (order : List ℕ) (shared now : List (List ℤ)) → IsTieOrder m order → length shared ≡ m
    → ((k : ℕ) → k < m → get_or now (place_at order k) [] ≡ get_or shared k []) → in_order order now ≡ shared
all_back m order shared now tie count each =
    let size = tie.size in
    ext_get_or [] (in_order order now) shared (length-map order (λ k. get_or now k []) ∙ size ∙ sym count)
    (λ k l. let h : k < length order = omega (arith, l, length-map order (λ k. get_or now k [])) in get-in_order now order k h ∙ each k (omega (arith, h, size)))

-- ---- n entries for each member
pub row_below : (k j m n : ℕ) → j < n → k * n + j < m * n → k < m
row_below k j m n l h =
    let some : 0 < n = omega arith in
    subst (λ (i : ℕ). i < m) (div-mul-add k n j l) ((div-lt_iff_lt-mul some).1 h)

pub entry_below : (k j m n : ℕ) → k < m → j < n → k * n + j < m * n
entry_below k j m n h l = let p = mul-add-lt k n j m h l in omega (arith, p)

-- where an entry of the turn p / n belongs
abbrev pub entry_place : List ℕ → ℕ → ℕ → ℕ
entry_place order n p = place_at order (p / n) * n + p % n

pub entry_place-below : (m n p : ℕ) (order : List ℕ) → IsTieOrder m order → p < m * n → entry_place order n p < m * n
entry_place-below m n p order tie h = some n h
  where
    some : (n : ℕ) → p < m * n → entry_place order n p < m * n
    some zero h = absurd (omega (arith, h))
    some (suc n) h =
        let more : 0 < suc n = omega arith in
        entry_below (place_at order (p / suc n)) (p % suc n) m (suc n) (tie.within (p / suc n) ((div-lt_iff_lt-mul more).1 h)) (mod-lt p more)

pub one_more_entry : {A : Type 0} (m n : ℕ) (order : List ℕ) (shared old new : List A) (d x : A) (p : ℕ) → IsTieOrder m order → p < m * n → length old ≡ m * n
    → x ≡ get_or shared p d → new ≡ set old (entry_place order n p) x
    → ((k j : ℕ) → j < n → k * n + j < p → get_or old (place_at order k * n + j) d ≡ get_or shared (k * n + j) d)
    → (k j : ℕ) → j < n → k * n + j < p + 1 → get_or new (place_at order k * n + j) d ≡ get_or shared (k * n + j) d
one_more_entry m n order shared old new d x p tie here count is written before k j l h = at (eq-or-lt_of_le (let le : k * n + j ≤ p = omega arith in le))
  where
    at : (k * n + j ≡ p) ⊎ (k * n + j < p) → get_or new (place_at order k * n + j) d ≡ get_or shared (k * n + j) d
    at (inl e) =
        let row : p / n ≡ k = ap (λ (i : ℕ). i / n) (sym e) ∙ div-mul-add k n j l in
        let column : p % n ≡ j = ap (λ (i : ℕ). i % n) (sym e) ∙ mod-mul-add k n j l in
        let place : entry_place order n p ≡ place_at order k * n + j = ap (λ (i : ℕ). place_at order i * n + p % n) row ∙ ap (λ (i : ℕ). place_at order k * n + i) column in
        ap (λ (xs : List _). get_or xs (place_at order k * n + j) d) written
        ∙ ap (λ (i : ℕ). get_or (set old (entry_place order n p) x) i d) (sym place)
        ∙ get_or-set_same old (entry_place order n p) x d (let w = entry_place-below m n p order tie here in omega (arith, w, count))
        ∙ is
        ∙ ap (λ (i : ℕ). get_or shared i d) (sym e)
    at (inr b) =
        ap (λ (xs : List _). get_or xs (place_at order k * n + j) d) written
        ∙ get_or-set_other old (entry_place order n p) (place_at order k * n + j) x d (λ e. other b e)
        ∙ before k j l b
      where
        other : k * n + j < p → place_at order k * n + j ≢ entry_place order n p
        other b e =
            let some : 0 < n = omega arith in
            let remainder : p % n < n = mod-lt p some in
            let rows : place_at order k ≡ place_at order (p / n) = sym (div-mul-add (place_at order k) n j l) ∙ ap (λ (i : ℕ). i / n) e ∙ div-mul-add (place_at order (p / n)) n (p % n) remainder in
            let columns : j ≡ p % n = sym (mod-mul-add (place_at order k) n j l) ∙ ap (λ (i : ℕ). i % n) e ∙ mod-mul-add (place_at order (p / n)) n (p % n) remainder in
            let row : k ≡ p / n = tie.once k (p / n) (row_below k j m n l (omega (arith, b, here))) ((div-lt_iff_lt-mul some).1 here) rows in
            let same : k * n + j ≡ p = ap (λ (i : ℕ). i * n + j) row ∙ ap (λ (i : ℕ). p / n * n + i) columns ∙ div-add-mod' p n in
            omega (arith, same, b)
