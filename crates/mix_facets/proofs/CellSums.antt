-- Sums along one coordinate after the other: how a cell's weight comes from its own and that of the cell before it.
use Rattle.std.proofs.Common.{◌≡◌, ◌≢◌, ℕ, zero, suc, ◌+◌, ◌-◌, ◌*◌, ◌/◌, ◌%◌, ◌<◌, ◌≤◌, ⊎_elim, Bool, true, false, cond, eqb, ltb, List, [], ◌∷◌, ℤ, pos, ◌+ℤ◌, refl, arith, sym, ap, ap₂, ◌∙◌, Option, length, get_or, take}
use Rattle.std.proofs.lemmas.Int.{ints}
use Rattle.std.proofs.lemmas.Bool.{cases_lt, lt-ltb, le-ltb, eq-eqb, ne_eqb}
use Rattle.std.proofs.lemmas.Nat.{div-add-mod', mod_below, div-mul-add, mod-mul-add}
use Rattle.std.proofs.Math.Nat.{div-div-eq-div-mul, div-eq_of_lt, zero-mod}
use Rattle.mix_bids.specs.declared.bid.Bid.{Bid}
use Rattle.mix_facets.specs.Grids.{size_of}
use Rattle.mix_facets.specs.Cells.{first_place, leads, holds, weight_held, AreSums}
use Rattle.mix_facets.proofs.Numberings.{digits_of}

-- ---- the place along a coordinate

div_one : (k : ℕ) → k / 1 ≡ k
div_one k =
    let e = div-add-mod' k 1 in
    let l = mod_below k 1 (omega arith) in
    omega arith

-- behind the first coordinate, the place is that of the quotient
quotient_place : (k m s b : ℕ) → k / (m * s) % b ≡ k / m / s % b
quotient_place k m s b = ap (λ z. z % b) (sym (div-div-eq-div-mul k m s))

-- a number whose place isn't the first is at least the stride
far : (q s b : ℕ) → q / s % b ≢ 0 → s ≤ q
far q s b h = ⊎_elim (λ l. absurd (h (at l))) (λ l. l) (cases_lt q s)
  where
    at : q < s → q / s % b ≡ 0
    at l = ap (λ z. z % b) (div-eq_of_lt l) ∙ zero-mod b

-- a number that lies a stride further back has the same rest, and its quotient lies a stride of its own further back
pub record IsBack (k m s : ℕ) : Type 0 where
  pub rest : (k - m * s) % m ≡ k % m
  pub quotient : (k - m * s) / m ≡ k / m - s

back : (k m s : ℕ) → 0 < m → s ≤ k / m → IsBack k m s
back k m s p h =
    let l = mod_below k m p in
    let f = at (k / m) (k % m) h (div-add-mod' k m) in
    record {
      rest = ap (λ z. z % m) (sym f) ∙ mod-mul-add (k / m - s) m (k % m) l;
      quotient = ap (λ z. z / m) (sym f) ∙ div-mul-add (k / m - s) m (k % m) l;
    }
  where
    at : (q r : ℕ) → s ≤ q → q * m + r ≡ k → (q - s) * m + r ≡ k - m * s
    at q r l e =
        let d : q ≡ (q - s) + s = omega arith in
        let f : q * m ≡ ((q - s) + s) * m = ap (λ z. z * m) d in
        omega arith

-- the number before one that isn't at the first place of the first coordinate
pub record IsBefore (k m : ℕ) : Type 0 where
  pub rest : k % m ≡ suc ((k - 1) % m)
  pub quotient : (k - 1) / m ≡ k / m

before : (k m : ℕ) → 0 < m → k % m ≢ 0 → IsBefore k m
before k m p h =
    let l = mod_below k m p in
    let e = div-add-mod' k m in
    let f : k / m * m + (k % m - 1) ≡ k - 1 = omega arith in
    let q : k % m - 1 < m = omega arith in
    let r = ap (λ z. z % m) (sym f) ∙ mod-mul-add (k / m) m (k % m - 1) q in
    record {
      rest = omega arith;
      quotient = ap (λ z. z / m) (sym f) ∙ div-mul-add (k / m) m (k % m - 1) q;
    }

-- ---- one bid

-- at the first place of the coordinate, a cell holds what it held
holds_first : (c e : ℕ) (grid : List (List ℤ)) (l : ℕ → Option ℤ) (k : ℕ) → c < length grid → k / size_of (take c grid) % length (get_or grid c []) ≡ 0 → holds (suc c) e grid l k ≡ holds c e grid l k
holds_first c e [] l k h z = absurd (omega arith)
holds_first zero e (us ∷ grid) l k h z = ap (λ t. cond t (holds zero (suc e) grid l (k / length us)) false) (same (first_place us (l e)) (k % length us) (ap (λ n. n % length us) (sym (div_one k)) ∙ z))
  where
    same : (r d : ℕ) → d ≡ 0 → ltb r (suc d) ≡ eqb r d
    same r d q = ⊎_elim
        (λ m. lt-ltb r (suc d) (omega arith) ∙ sym (eq-eqb r d (omega arith)))
        (λ m. le-ltb r (suc d) (omega arith) ∙ sym (ne_eqb r d (λ y. omega arith)))
        (cases_lt r (suc d))
holds_first (suc c) e (us ∷ grid) l k h z = ap (λ t. cond (ltb (first_place us (l e)) (suc (k % length us))) t false) (holds_first c (suc e) grid l (k / length us) (omega arith) (sym (quotient_place k (length us) (size_of (take c grid)) (length (get_or grid c []))) ∙ z))

-- at a later place it holds, beside that, what the cell before it holds now
holds_later : (c e : ℕ) (grid : List (List ℤ)) (l : ℕ → Option ℤ) (k : ℕ) (w : ℤ) → c < length grid → k < size_of grid → k / size_of (take c grid) % length (get_or grid c []) ≢ 0
    → cond (holds (suc c) e grid l k) w (pos 0) ≡ cond (holds c e grid l k) w (pos 0) +ℤ cond (holds (suc c) e grid l (k - size_of (take c grid))) w (pos 0)
holds_later c e [] l k w h s z = absurd (omega arith)
holds_later zero e (us ∷ grid) l k w h s z =
    let p = digits_of k (length us) (size_of grid) s in
    let b = before k (length us) p.some (λ q. z (ap (λ n. n % length us) (div_one k) ∙ q)) in
    let r = first_place us (l e) in
    let rest = holds zero (suc e) grid l in
    ap (λ n. cond (cond (ltb r (suc n)) (rest (k / length us)) false) w (pos 0)) b.rest
    ∙ split r ((k - 1) % length us) (rest (k / length us)) w
    ∙ ap₂ (λ n q. cond (cond (eqb r n) (rest (k / length us)) false) w (pos 0) +ℤ cond (cond (ltb r (suc ((k - 1) % length us))) (rest q) false) w (pos 0)) (sym b.rest) (sym b.quotient)
  where
    split : (r d : ℕ) (x : Bool) (w : ℤ) → cond (cond (ltb r (suc (suc d))) x false) w (pos 0) ≡ cond (cond (eqb r (suc d)) x false) w (pos 0) +ℤ cond (cond (ltb r (suc d)) x false) w (pos 0)
    split r d false w = zeros (ltb r (suc (suc d))) (eqb r (suc d)) (ltb r (suc d))
      where
        zeros : (s t u : Bool) → cond (cond s false false) w (pos 0) ≡ cond (cond t false false) w (pos 0) +ℤ cond (cond u false false) w (pos 0)
        zeros s t u = nothing s ∙ ap₂ (λ a b. a +ℤ b) (sym (nothing t)) (sym (nothing u))
          where
            nothing : (s : Bool) → cond (cond s false false) w (pos 0) ≡ pos 0
            nothing true = refl
            nothing false = refl
    split r d true w = ⊎_elim
        (λ m. three (lt-ltb r (suc (suc d)) (omega arith)) (ne_eqb r (suc d) (λ y. omega arith)) (lt-ltb r (suc d) m) (omega (arith, ints)))
        (λ m. ⊎_elim
        (λ q. three (lt-ltb r (suc (suc d)) (omega arith)) (eq-eqb r (suc d) (omega arith)) (le-ltb r (suc d) m) (omega (arith, ints)))
        (λ q. three (le-ltb r (suc (suc d)) q) (ne_eqb r (suc d) (λ y. omega arith)) (le-ltb r (suc d) m) (omega (arith, ints)))
        (cases_lt r (suc (suc d))))
        (cases_lt r (suc d))
      where
        part : Bool → ℤ
        part s = cond (cond s true false) w (pos 0)

        three : {s t u : Bool} → ltb r (suc (suc d)) ≡ s → eqb r (suc d) ≡ t → ltb r (suc d) ≡ u → part s ≡ part t +ℤ part u → part (ltb r (suc (suc d))) ≡ part (eqb r (suc d)) +ℤ part (ltb r (suc d))
        three p q o h = ap part p ∙ h ∙ ap₂ (λ a b. a +ℤ b) (sym (ap part q)) (sym (ap part o))
holds_later (suc c) e (us ∷ grid) l k w h s z =
    let m = length us in
    let t = size_of (take c grid) in
    let p = digits_of k m (size_of grid) s in
    let far_on = λ (q : k / m / t % length (get_or grid c []) ≡ 0). z (quotient_place k m t (length (get_or grid c [])) ∙ q) in
    let b = back k m t p.some (far (k / m) t (length (get_or grid c [])) far_on) in
    let r = first_place us (l e) in
    both (ltb r (suc (k % m))) (holds (suc c) (suc e) grid l (k / m)) (holds c (suc e) grid l (k / m)) (holds (suc c) (suc e) grid l (k / m - t)) w (holds_later c (suc e) grid l (k / m) w (omega arith) p.quotient far_on)
    ∙ ap₂ (λ n q. cond (cond (ltb r (suc (k % m))) (holds c (suc e) grid l (k / m)) false) w (pos 0) +ℤ cond (cond (ltb r (suc n)) (holds (suc c) (suc e) grid l q) false) w (pos 0)) (sym b.rest) (sym b.quotient)
  where
    both : (t x y z : Bool) (w : ℤ) → cond x w (pos 0) ≡ cond y w (pos 0) +ℤ cond z w (pos 0) → cond (cond t x false) w (pos 0) ≡ cond (cond t y false) w (pos 0) +ℤ cond (cond t z false) w (pos 0)
    both true x y z w h = h
    both false x y z w h = omega (arith, ints)

-- ---- all bids

weight_first : (i j c : ℕ) (grid : List (List ℤ)) (bs : List Bid) (k : ℕ) → c < length grid → k / size_of (take c grid) % length (get_or grid c []) ≡ 0 → weight_held i j (suc c) grid bs k ≡ weight_held i j c grid bs k
weight_first i j c grid [] k h z = refl
weight_first i j c grid (b ∷ bs) k h z = ap₂ (λ t w. cond t b.weight (pos 0) +ℤ w) (holds_first c 0 grid (leads i j b) k h z) (weight_first i j c grid bs k h z)

weight_later : (i j c : ℕ) (grid : List (List ℤ)) (bs : List Bid) (k : ℕ) → c < length grid → k < size_of grid → k / size_of (take c grid) % length (get_or grid c []) ≢ 0
    → weight_held i j (suc c) grid bs k ≡ weight_held i j c grid bs k +ℤ weight_held i j (suc c) grid bs (k - size_of (take c grid))
weight_later i j c grid [] k h s z = refl
weight_later i j c grid (b ∷ bs) k h s z =
    let p = holds_later c 0 grid (leads i j b) k b.weight h s z in
    let q = weight_later i j c grid bs k h s z in
    omega (arith, ints)

-- what the cells hold with one more coordinate are the sums along it of what they held
pub held_sums : (i j c : ℕ) (grid : List (List ℤ)) (bs : List Bid) (cells : List ℤ) → c < length grid → length cells ≡ size_of grid → ((k : ℕ) → k < size_of grid → get_or cells k (pos 0) ≡ weight_held i j c grid bs k)
    → AreSums (size_of (take c grid)) (length (get_or grid c [])) cells (weight_held i j (suc c) grid bs)
held_sums i j c grid bs cells h s is = record {
  first = λ k l z. weight_first i j c grid bs k h z ∙ sym (is k (omega arith));
  later = λ k l z. weight_later i j c grid bs k h (omega arith) z ∙ ap (λ w. w +ℤ weight_held i j (suc c) grid bs (k - size_of (take c grid))) (sym (is k (omega arith)));
}
