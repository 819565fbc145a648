-- The one cell that holds a bid at first: in each coordinate it lies at the bid's first place.
use Rattle.std.proofs.Common.{◌≡◌, ◌≢◌, ℕ, zero, suc, ◌+◌, ◌*◌, ◌/◌, ◌%◌, ◌^◌, ◌≤◌, ◌<◌, ⊎_elim, Bool, true, false, cond, eqb, List, [], ◌∷◌, ℤ, refl, arith, sym, ap, ap₂, ◌∙◌, subst, Option, length, get_or, drop, drop-cons}
use Rattle.std.proofs.lemmas.Bool.{false≢true, cases_eq, eq-eqb, ne_eqb}
use Rattle.std.proofs.lemmas.List.{drop_all}
use Rattle.std.proofs.lemmas.Nat.{div-add-mod', mul-add-lt, same_from_place, mul-le}
use Rattle.std.proofs.Math.Nat.{pow-suc, pow-le-pow_right}
use Rattle.mix_facets.specs.Grids.{size_of}
use Rattle.mix_facets.specs.Cells.{first_place, holds}
use Rattle.mix_facets.proofs.Numberings.{digits_of}

-- the cell of the coordinates from e on
pub record IsFirstCell (e : ℕ) (grid : List (List ℤ)) (l : ℕ → Option ℤ) (cell : ℕ) : Type 0 where
  pub below : cell < size_of grid
  pub only : (k : ℕ) → k < size_of grid → holds 0 e grid l k ≡ eqb cell k

-- no coordinate
pub cell_end : (e : ℕ) (grid : List (List ℤ)) (l : ℕ → Option ℤ) → length grid ≤ e → IsFirstCell e (drop e grid) l 0
cell_end e grid l h = subst (λ (z : List (List ℤ)). IsFirstCell e z l 0) (sym (drop_all e grid h)) (record {
  below = omega arith;
  only = λ k p. sym (eq-eqb 0 k (omega arith));
})

-- one more coordinate in front
cell_cons : (e : ℕ) (us : List ℤ) (grid : List (List ℤ)) (l : ℕ → Option ℤ) (place cell : ℕ) → place ≡ first_place us (l e) → place < length us → IsFirstCell (suc e) grid l cell → IsFirstCell e (us ∷ grid) l (cell * length us + place)
cell_cons e us grid l place cell q h is = record {
  below = mul-add-lt cell (length us) place (size_of grid) is.below h;
  only = λ k p.
      let m = length us in
      let d = digits_of k m (size_of grid) p in
      ap (λ r. cond (eqb r (k % m)) (holds 0 (suc e) grid l (k / m)) false) (sym q)
      ∙ ap (λ t. cond (eqb place (k % m)) t false) (is.only (k / m) d.quotient)
      ∙ both m (k / m) (k % m) h d.rest
      ∙ ap (eqb (cell * m + place)) (div-add-mod' k m);
}
  where
    both : (m q d : ℕ) → place < m → d < m → cond (eqb place d) (eqb cell q) false ≡ eqb (cell * m + place) (q * m + d)
    both m q d p l = ⊎_elim
        (λ e. ⊎_elim
        (λ f. ap₂ (λ t u. cond t u false) (eq-eqb place d e) (eq-eqb cell q f) ∙ sym (eq-eqb (cell * m + place) (q * m + d) (ap₂ (λ a b. a * m + b) f e)))
        (λ f. ap₂ (λ t u. cond t u false) (eq-eqb place d e) (ne_eqb cell q f) ∙ sym (ne_eqb (cell * m + place) (q * m + d) (λ z. f (same_from_place cell place q d m p l z).0)))
        (cases_eq cell q))
        (λ e. ap (λ t. cond t (eqb cell q) false) (ne_eqb place d e) ∙ sym (ne_eqb (cell * m + place) (q * m + d) (λ z. e (same_from_place cell place q d m p l z).1)))
        (cases_eq place d)

pub cell_step : (n m : ℕ) (us : List ℤ) (grid : List (List ℤ)) (l : ℕ → Option ℤ) (place cell : ℕ) → m ≡ suc n → n < length grid → us ≡ get_or grid n [] → place ≡ first_place us (l n) → place < length us → IsFirstCell m (drop m grid) l cell → IsFirstCell n (drop n grid) l (cell * length us + place)
cell_step n m us grid l place cell e h q p r is = subst (λ (z : List (List ℤ)). IsFirstCell n z l (cell * length us + place)) (ap (λ z. z ∷ drop (suc n) grid) q ∙ sym (drop-cons grid n [] h))
    (cell_cons n us (drop (suc n) grid) l place cell p r (subst (λ z. IsFirstCell z (drop z grid) l cell) e is))

-- ---- no cell

neither : (t : Bool) → cond t false false ≡ false
neither true = refl
neither false = refl

-- where no cell of some last coordinates holds the bid, none of all does
none_before : (n e m : ℕ) (grid : List (List ℤ)) (l : ℕ → Option ℤ) → m ≡ e + n → ((k : ℕ) → k < size_of (drop n grid) → holds 0 m (drop n grid) l k ≡ false) → (k : ℕ) → k < size_of grid → holds 0 e grid l k ≡ false
none_before zero e m grid l q h k p = ap (λ z. holds 0 z grid l k) (let r : e ≡ m = omega arith in r) ∙ h k p
none_before (suc n) e m [] l q h k p = absurd (false≢true (sym (h 0 (omega arith))))
none_before (suc n) e m (us ∷ grid) l q h k p =
    let d = digits_of k (length us) (size_of grid) p in
    ap (λ t. cond (eqb (first_place us (l e)) (k % length us)) t false) (none_before n (suc e) m grid l (omega arith) h (k / length us) d.quotient)
    ∙ neither (eqb (first_place us (l e)) (k % length us))

-- a bid with no first place in some coordinate is held by no cell
pub none_held : (n : ℕ) (us : List ℤ) (grid : List (List ℤ)) (l : ℕ → Option ℤ) → n < length grid → us ≡ get_or grid n [] → first_place us (l n) ≡ length us → (k : ℕ) → k < size_of grid → holds 0 0 grid l k ≡ false
none_held n us grid l h q p = none_before n 0 n grid l (omega arith) (λ k b.
    let e = drop-cons grid n [] h in
    let f : drop n grid ≡ us ∷ drop (suc n) grid = e ∙ ap (λ z. z ∷ drop (suc n) grid) (sym q) in
    let d = digits_of k (length us) (size_of (drop (suc n) grid)) (subst (λ (z : List (List ℤ)). k < size_of z) f b) in
    let r : first_place us (l n) ≢ k % length us = λ z. let s = d.rest in omega arith in
    ap (λ z. holds 0 n z l k) f ∙ ap (λ t. cond t (holds 0 (suc n) (drop (suc n) grid) l (k / length us)) false) (ne_eqb (first_place us (l n)) (k % length us) r))

-- ---- the greatest size

all_small : (grid : List (List ℤ)) → ((k : ℕ) → k < length grid → length (get_or grid k []) ≤ 401) → size_of grid ≤ 401 ^ length grid
all_small [] h = omega arith
all_small (us ∷ grid) h =
    let a = mul-le (length us) (size_of grid) 401 (401 ^ length grid) (h 0 (omega arith)) (all_small grid (λ k l. h (suc k) (omega arith))) in
    let b = pow-suc 401 (length grid) in
    omega arith

all_few : (k : ℕ) → k ≤ 7 → 401 ^ k ≤ 401 ^ 7
all_few k h = pow-le-pow_right (let z : 0 < 401 = omega arith in z) h

-- no coordinates of seven with few candidates each have more cells
pub few_cells : (n : ℕ) (grid : List (List ℤ)) → length grid ≤ 7 → ((k : ℕ) → k < length grid → length (get_or grid k []) ≤ 401) → size_of (drop n grid) ≤ 401 ^ 7
few_cells zero grid s h =
    let a = all_small grid h in
    let b = all_few (length grid) s in
    omega arith
few_cells (suc n) [] s h = all_few 0 (omega arith)
few_cells (suc n) (us ∷ grid) s h = few_cells n grid (omega arith) (λ k l. h (suc k) (omega arith))
