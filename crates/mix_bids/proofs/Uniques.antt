-- Sums over the different numbers of a list, when a number comes at its end, and when a function changes at one number.
use Rattle.std.proofs.Common.{◌≡◌, ◌≢◌, ℕ, ◌+◌, Bool, true, false, cond, ◌||◌, List, [], ◌∷◌, ◌++◌, ℤ, length, refl, arith, sym, ap, ap₂, ◌∙◌, int_eq, true≢false}
use Rattle.std.specs.List.{sum_by}
use Rattle.std.specs.Set.{unique_keys, distinct_count}
use Rattle.std.proofs.lemmas.List.Sums.{sum_by-cons}
use Rattle.mix_num.proofs.Equalities.{int_eq_is}
use Rattle.mix_bids.specs.Counted.{is_among}
use Rattle.mix_bids.proofs.Cases.{by_test}

-- the different numbers of a list
abbrev pub uniques : List ℤ → List ℤ
uniques us = unique_keys int_eq us

sum_cond : (f : ℤ → ℕ) (t : Bool) (xs ys : List ℤ) → sum_by f (cond t xs ys) ≡ cond t (sum_by f xs) (sum_by f ys)
sum_cond f true xs ys = refl
sum_cond f false xs ys = refl

-- the sum, one number at a time
pub sum_step : (f : ℤ → ℕ) (w : ℤ) (us : List ℤ) → sum_by f (uniques (w ∷ us)) ≡ cond (is_among us w) 0 (f w) + sum_by f (uniques us)
sum_step f w us = sum_cond f (is_among us w) (uniques us) (w ∷ uniques us) ∙ by_test (is_among us w)
    (λ h. ap (λ z. cond z (sum_by f (uniques us)) (sum_by f (w ∷ uniques us))) h ∙ let e = ap (λ z. cond z 0 (f w) + sum_by f (uniques us)) h in omega arith)
    (λ h. ap (λ z. cond z (sum_by f (uniques us)) (sum_by f (w ∷ uniques us))) h ∙ sum_by-cons f w (uniques us) ∙ sym (ap (λ z. cond z 0 (f w) + sum_by f (uniques us)) h))

pub among_push : (us : List ℤ) (u v : ℤ) → is_among (us ++ u ∷ []) v ≡ (is_among us v || int_eq v u)
among_push [] u v = by_test (int_eq v u) (λ h. ap (λ z. z || false) h ∙ sym h) (λ h. ap (λ z. z || false) h ∙ sym h)
among_push (w ∷ us) u v = ap (λ z. int_eq v w || z) (among_push us u v) ∙ either_assoc (int_eq v w) (is_among us v) (int_eq v u)
  where
    either_assoc : (a b c : Bool) → (a || (b || c)) ≡ ((a || b) || c)
    either_assoc true b c = refl
    either_assoc false b c = refl

pub int_eq_swap : (u v : ℤ) → int_eq u v ≡ int_eq v u
int_eq_swap u v = by_test (int_eq u v)
    (λ h. h ∙ sym ((int_eq_is v u).1 (sym ((int_eq_is u v).0 h))))
    (λ h. by_test (int_eq v u) (λ k. (int_eq_is u v).1 (sym ((int_eq_is v u).0 k)) ∙ sym k) (λ k. h ∙ sym k))

-- a number that comes at the end adds to the sum where it isn't among the others
pub sum_push : (f : ℤ → ℕ) (us : List ℤ) (u : ℤ) → sum_by f (uniques (us ++ u ∷ [])) ≡ sum_by f (uniques us) + cond (is_among us u) 0 (f u)
sum_push f [] u = refl
sum_push f (w ∷ us) u =
    sum_step f w (us ++ u ∷ [])
    ∙ ap₂ (λ a s. cond a 0 (f w) + s) (among_push us u w) (sum_push f us u)
    ∙ turn (is_among us w) (int_eq w u) (is_among us u) (f w) (f u) (sum_by f (uniques us)) (λ h. let e = (int_eq_is w u).0 h in (ap (is_among us) e, ap f e))
    ∙ ap₂ (λ s a. s + cond a 0 (f u)) (sym (sum_step f w us)) (ap (λ z. z || is_among us u) (int_eq_swap w u))
  where
    turn : (a b c : Bool) (x y s : ℕ) → (b ≡ true → (a ≡ c) × (x ≡ y)) → cond (a || b) 0 x + (s + cond c 0 y) ≡ (cond a 0 x + s) + cond (b || c) 0 y
    turn true true true x y s h = omega arith
    turn true true false x y s h = absurd (true≢false (h refl).0)
    turn true false true x y s h = omega arith
    turn true false false x y s h = omega arith
    turn false true true x y s h = absurd (true≢false (sym (h refl).0))
    turn false true false x y s h = let e = (h refl).1 in omega arith
    turn false false true x y s h = omega arith
    turn false false false x y s h = omega arith

-- a function that changes at one number alone changes the sum by its change there, where the number is in the list
pub sum_changed : (f g : ℤ → ℕ) (e : ℤ) (us : List ℤ) → ((u : ℤ) → u ≢ e → f u ≡ g u) → sum_by g (uniques us) + cond (is_among us e) (f e) 0 ≡ sum_by f (uniques us) + cond (is_among us e) (g e) 0
sum_changed f g e [] h = refl
sum_changed f g e (w ∷ us) h =
    ap (λ s. s + cond (is_among (w ∷ us) e) (f e) 0) (sum_step g w us)
    ∙ turn (is_among us w) (int_eq e w) (is_among us e) (f w) (g w) (f e) (g e) (sum_by f (uniques us)) (sum_by g (uniques us))
    (λ t. let q = (int_eq_is e w).0 t in (ap (is_among us) (sym q), ap f (sym q), ap g (sym q)))
    (λ t. h w (λ q. true≢false (sym ((int_eq_is e w).1 (sym q)) ∙ t)))
    (sum_changed f g e us h)
    ∙ ap (λ s. s + cond (is_among (w ∷ us) e) (g e) 0) (sym (sum_step f w us))
  where
    turn : (a b c : Bool) (x y p q s t : ℕ) → (b ≡ true → (a ≡ c) × (x ≡ p) × (y ≡ q)) → (b ≡ false → x ≡ y) → t + cond c p 0 ≡ s + cond c q 0
        → (cond a 0 y + t) + cond (b || c) p 0 ≡ (cond a 0 x + s) + cond (b || c) q 0
    turn true true true x y p q s t h k i = omega (arith, i)
    turn true true false x y p q s t h k i = absurd (true≢false (h refl).0)
    turn false true true x y p q s t h k i = absurd (true≢false (sym (h refl).0))
    turn false true false x y p q s t h k i = let d = h refl in let d1 = d.1 in let d2 = d.2 in omega (arith, i)
    turn true false true x y p q s t h k i = omega (arith, i)
    turn true false false x y p q s t h k i = omega (arith, i)
    turn false false true x y p q s t h k i = let d = k refl in omega (arith, i)
    turn false false false x y p q s t h k i = let d = k refl in omega (arith, i)

-- how many different numbers there are, as a sum
pub distinct_is_sum : (us : List ℤ) → distinct_count int_eq us ≡ sum_by (λ u. 1) (uniques us)
distinct_is_sum us = ones (uniques us)
  where
    ones : (xs : List ℤ) → length xs ≡ sum_by (λ u. 1) xs
    ones [] = refl
    ones (x ∷ xs) = let e = ones xs in let s = sum_by-cons (λ (u : ℤ). 1) x xs in omega arith

-- one number more at the end
pub distinct_push : (us : List ℤ) (u : ℤ) → distinct_count int_eq (us ++ u ∷ []) ≡ distinct_count int_eq us + cond (is_among us u) 0 1
distinct_push us u = distinct_is_sum (us ++ u ∷ []) ∙ sum_push (λ u. 1) us u ∙ ap (λ s. s + cond (is_among us u) 0 1) (sym (distinct_is_sum us))
