-- Lists with the same numbers have the same sum over their different numbers, and different numbers are each counted.
use Rattle.std.proofs.Common.{◌≡◌, ◌≢◌, ℕ, zero, suc, ◌+◌, Bool, true, false, cond, not, ◌||◌, List, [], ◌∷◌, ℤ, map, filter, refl, arith, sym, ap, ap₂, ◌∙◌, int_eq, true≢false, Contains, AllPairs}
use Rattle.std.specs.List.{sum_by}
use Rattle.std.specs.Set.{distinct_count}
use Rattle.std.proofs.lemmas.Cmp.{int_eq_equiv}
use Rattle.std.proofs.lemmas.Map.Views.{list_any-from_Contains, Contains-from_any}
use Rattle.mix_num.proofs.Equalities.{int_eq_is}
use Rattle.mix_bids.specs.Counted.{is_among}
use Rattle.mix_bids.proofs.Cases.{by_test, not_true, same_bool}
use Rattle.mix_bids.proofs.Uniques.{distinct_is_sum, int_eq_swap, sum_step, uniques}

-- what is in a list, as a test and as a place
pub among_from : (us : List ℤ) (u : ℤ) → Contains us u → is_among us u ≡ true
among_from us u h = list_any-from_Contains int_eq_equiv u us h

pub from_among : (us : List ℤ) (u : ℤ) → is_among us u ≡ true → Contains us u
from_among us u h = Contains-from_any (λ x y e. (int_eq_is x y).0 e) u us h

-- a list without a number
abbrev pub without : ℤ → List ℤ → List ℤ
without w us = filter (λ v. not (int_eq v w)) us

among_without : (w u : ℤ) (us : List ℤ) → u ≢ w → is_among (without w us) u ≡ is_among us u
among_without w u [] h = refl
among_without w u (v ∷ us) h = at (among_without w u us h) (int_eq v w) refl
  where
    at : is_among (without w us) u ≡ is_among us u → (t : Bool) → int_eq v w ≡ t → is_among (cond (not t) (v ∷ without w us) (without w us)) u ≡ (int_eq u v || is_among us u)
    at r true e = r ∙ sym (ap (λ z. z || is_among us u) (not_true (int_eq u v) (λ q. h ((int_eq_is u v).0 q ∙ (int_eq_is v w).0 e))))
    at r false e = ap (λ z. int_eq u v || z) r

among_itself : (w : ℤ) (us : List ℤ) → is_among (without w us) w ≡ false
among_itself w [] = refl
among_itself w (v ∷ us) = at (among_itself w us) (int_eq v w) refl
  where
    at : is_among (without w us) w ≡ false → (t : Bool) → int_eq v w ≡ t → is_among (cond (not t) (v ∷ without w us) (without w us)) w ≡ false
    at r true e = r
    at r false e = ap (λ z. z || is_among (without w us) w) (int_eq_swap w v ∙ e) ∙ r

pub sum_without : (f : ℤ → ℕ) (w : ℤ) (us : List ℤ) → sum_by f (uniques us) ≡ cond (is_among us w) (f w) 0 + sum_by f (uniques (without w us))
sum_without f w [] = refl
sum_without f w (v ∷ us) = at (sum_without f w us) (int_eq v w) refl
  where
    same : (a : Bool) (x y s t : ℕ) → x ≡ y → s ≡ cond a y 0 + t → cond a 0 x + s ≡ y + t
    same true x y s t e h = omega (arith, e, h)
    same false x y s t e h = omega (arith, e, h)

    other : (a b : Bool) (x y s t : ℕ) → s ≡ cond b y 0 + t → cond a 0 x + s ≡ cond b y 0 + (cond a 0 x + t)
    other a b x y s t h = omega (arith, h)

    at : sum_by f (uniques us) ≡ cond (is_among us w) (f w) 0 + sum_by f (uniques (without w us)) → (t : Bool) → int_eq v w ≡ t → sum_by f (uniques (v ∷ us)) ≡ cond (int_eq w v || is_among us w) (f w) 0 + sum_by f (uniques (cond (not t) (v ∷ without w us) (without w us)))
    at r true e =
        let q = (int_eq_is v w).0 e in
        sum_step f v us
        ∙ ap (λ z. cond (is_among us z) 0 (f v) + sum_by f (uniques us)) q
        ∙ same (is_among us w) (f v) (f w) _ _ (ap f q) r
        ∙ ap (λ z. cond (z || is_among us w) (f w) 0 + sum_by f (uniques (without w us))) (sym (int_eq_swap w v ∙ e))
    at r false e =
        let q : v ≢ w = λ z. true≢false (sym ((int_eq_is v w).1 z) ∙ e) in
        sum_step f v us
        ∙ other (is_among us v) (is_among us w) (f v) (f w) _ _ r
        ∙ ap (λ z. cond (is_among us w) (f w) 0 + (cond z 0 (f v) + sum_by f (uniques (without w us)))) (sym (among_without w v us q))
        ∙ ap (λ z. cond (is_among us w) (f w) 0 + z) (sym (sum_step f v (without w us)))
        ∙ ap (λ z. cond (z || is_among us w) (f w) 0 + sum_by f (uniques (v ∷ without w us))) (sym (int_eq_swap w v ∙ e))

-- lists with the same numbers have the same sum
pub sum_same_numbers : (f : ℤ → ℕ) (us vs : List ℤ) → ((u : ℤ) → is_among us u ≡ is_among vs u) → sum_by f (uniques us) ≡ sum_by f (uniques vs)
sum_same_numbers f [] [] h = refl
sum_same_numbers f [] (v ∷ vs) h = absurd (true≢false (sym (ap (λ z. z || is_among vs v) ((int_eq_is v v).1 refl)) ∙ sym (h v)))
sum_same_numbers f (w ∷ us) vs h = at (sum_same_numbers f us) (is_among us w) refl
  where
    head : is_among vs w ≡ true
    head = sym (h w) ∙ ap (λ z. z || is_among us w) ((int_eq_is w w).1 refl)

    -- where the first number comes again
    again : is_among us w ≡ true → (u : ℤ) → is_among us u ≡ is_among vs u
    again e u = by_test (int_eq u w)
        (λ q. let z = (int_eq_is u w).0 q in ap (is_among us) z ∙ e ∙ sym head ∙ ap (is_among vs) (sym z))
        (λ q. ap (λ z. z || is_among us u) (sym q) ∙ h u)

    -- where it doesn't
    once : is_among us w ≡ false → (u : ℤ) → is_among us u ≡ is_among (without w vs) u
    once e u = by_test (int_eq u w)
        (λ q. let z = (int_eq_is u w).0 q in ap (is_among us) z ∙ e ∙ sym (among_itself w vs) ∙ ap (is_among (without w vs)) (sym z))
        (λ q. ap (λ z. z || is_among us u) (sym q) ∙ h u ∙ sym (among_without w u vs (λ z. true≢false (sym ((int_eq_is u w).1 z) ∙ q))))

    at : ((ws : List ℤ) → ((u : ℤ) → is_among us u ≡ is_among ws u) → sum_by f (uniques us) ≡ sum_by f (uniques ws)) → (t : Bool) → is_among us w ≡ t → sum_by f (uniques (w ∷ us)) ≡ sum_by f (uniques vs)
    at r true e = let q = r vs (again e) in let z = ap (λ z. cond z 0 (f w) + sum_by f (uniques us)) e in sum_step f w us ∙ omega (arith, q, z)
    at r false e =
        sum_step f w us
        ∙ ap (λ z. cond z 0 (f w) + sum_by f (uniques us)) e
        ∙ ap (λ z. f w + z) (r (without w vs) (once e))
        ∙ ap (λ z. cond z (f w) 0 + sum_by f (uniques (without w vs))) (sym head)
        ∙ sym (sum_without f w vs)

-- as many different numbers
pub distinct_same_numbers : (us vs : List ℤ) → ((u : ℤ) → is_among us u ≡ is_among vs u) → distinct_count int_eq us ≡ distinct_count int_eq vs
distinct_same_numbers us vs h = distinct_is_sum us ∙ sum_same_numbers (λ u. 1) us vs h ∙ sym (distinct_is_sum vs)

pub same_among : (us vs : List ℤ) → ((u : ℤ) → Contains us u → Contains vs u) → ((u : ℤ) → Contains vs u → Contains us u) → (u : ℤ) → is_among us u ≡ is_among vs u
same_among us vs f g u = same_bool (is_among us u) (is_among vs u) (λ h. among_from vs u (f u (from_among us u h))) (λ h. among_from us u (g u (from_among vs u h)))

-- numbers of which no two are equal are all different
pub uniques_distinct : (us : List ℤ) → AllPairs (λ u v. u ≢ v) us → uniques us ≡ us
uniques_distinct [] h = refl
uniques_distinct (u ∷ us) h =
    let absent : is_among us u ≡ false = not_true (is_among us u) (λ e.
    let m = from_among us u e in
    let l = m.1 in
    h zero (suc m.0) u (omega arith) (omega arith) (sym m.2)) in
    ap (λ z. cond z (uniques us) (u ∷ uniques us)) absent ∙ ap (λ z. u ∷ z) (uniques_distinct us (λ k l d p q. h (suc k) (suc l) d (omega arith) (omega arith)))

-- a change that keeps different numbers different keeps their count
pub distinct_map : (g : ℤ → ℤ) → ((u v : ℤ) → g u ≡ g v → u ≡ v) → (us : List ℤ) → distinct_count int_eq (map g us) ≡ distinct_count int_eq us
distinct_map g inj us = distinct_is_sum (map g us) ∙ ones us ∙ sym (distinct_is_sum us)
  where
    among : (us : List ℤ) (u : ℤ) → is_among (map g us) (g u) ≡ is_among us u
    among [] u = refl
    among (v ∷ us) u = ap₂ (λ x y. x || y)
        (same_bool (int_eq (g u) (g v)) (int_eq u v) (λ e. (int_eq_is u v).1 (inj u v ((int_eq_is (g u) (g v)).0 e))) (λ e. (int_eq_is (g u) (g v)).1 (ap g ((int_eq_is u v).0 e))))
        (among us u)

    ones : (us : List ℤ) → sum_by (λ u. 1) (uniques (map g us)) ≡ sum_by (λ u. 1) (uniques us)
    ones [] = refl
    ones (u ∷ us) = sum_step (λ u. 1) (g u) (map g us) ∙ ap₂ (λ t s. cond t 0 1 + s) (among us u) (ones us) ∙ sym (sum_step (λ u. 1) u us)
