-- No facet weight of a block of four bids is negative: where the bid that is taken back has two best choices, another bid of the block has the same two.
use Rattle.std.proofs.Common.{◌≡◌, ◌≢◌, ◌∙◌, sym, ap, ap₂, refl, ◌<◌, ◌+◌, ◌⊎◌, Bool, true, false, cond, inl, inr, ℕ, zero, suc, ℤ, pos, neg_ℤ, ◌≤ℤ◌, ◌+ℤ◌, ◌-ℤ◌, replicate, get_or, arith, Option, Some, None, true≢false, int_eq, eqb}
use Rattle.std.proofs.lemmas.Bool.{cases_Bool}
use Rattle.std.proofs.lemmas.Bool.Decides.{nat_tests}
use Rattle.std.proofs.lemmas.Int.{ints}
use Rattle.std.proofs.lemmas.List.{get_or-set_other, get_or-set_same, length-set}
use Rattle.mix_num.specs.Vectors.{Vector}
use Rattle.mix_num.proofs.Equalities.{int_eq_is}
use Rattle.mix_bids.specs.Bids.{facet_weight}
use Rattle.mix_bids.specs.Offers.{Offers, best, gain, leaves, offer, pair, same_set}
use Rattle.mix_bids.proofs.BestChoices.{leaves_not}
use Rattle.mix_bids.proofs.Cases.{by_test, not_true, same_bool}
use Rattle.mix_bids.proofs.Gains.{gain_is, gain_one}
use Rattle.mix_bids.proofs.Pairs.{pair-true}
use Rattle.mix_bids.proofs.Sets.{same_set-intro, same_set-true}
use Rattle.mix_trial.specs.Trials.{block_bids, one_value, two_values}

-- ---- a bid that leaves out some of what isn't best has the same best set

abbrev Narrower : Offers → Offers → Vector → Type 0
Narrower vs ws x = (k : ℕ) → (offer ws k ≡ offer vs k) ⊎ ((offer ws k ≡ None) × (best vs x k ≡ false))

narrow_gain : (vs ws : Offers) (x : Vector) → Narrower vs ws x → gain vs x ≡ gain ws x
narrow_gain vs ws x h =
    let r = gain_is vs x in
    gain_one ws x _ _ (record {
      upper = λ k v o. upper k v o (h k);
      place = r.place;
      value = r.value;
      offered = there r.place r.value r.offered r.reached (h r.place);
      reached = r.reached;
    }) (gain_is ws x)
  where
    upper : (k : ℕ) (v : ℤ) → offer ws k ≡ Some v → (offer ws k ≡ offer vs k) ⊎ ((offer ws k ≡ None) × (best vs x k ≡ false)) → (v -ℤ x k) ≤ℤ gain vs x
    upper k v o (inl e) = (gain_is vs x).upper k v (sym e ∙ o)
    upper k v o (inr p) = absurd (let z : Some v ≡ None = sym o ∙ p.0 in cc z)

    there : (k : ℕ) (v : ℤ) → offer vs k ≡ Some v → v -ℤ x k ≡ gain vs x → (offer ws k ≡ offer vs k) ⊎ ((offer ws k ≡ None) × (best vs x k ≡ false)) → offer ws k ≡ Some v
    there k v o r (inl e) = e ∙ o
    there k v o r (inr p) = absurd (leaves_not (offer vs k) (x k) (gain vs x) v o p.1 r)

narrower : (vs ws : Offers) (x : Vector) → Narrower vs ws x → (k : ℕ) → best ws x k ≡ best vs x k
narrower vs ws x h k = same (h k)
  where
    same : (offer ws k ≡ offer vs k) ⊎ ((offer ws k ≡ None) × (best vs x k ≡ false)) → best ws x k ≡ best vs x k
    same (inl e) = ap₂ (λ (o : Option ℤ) (g : ℤ). leaves o (x k) g) e (sym (narrow_gain vs ws x h))
    same (inr p) = ap (λ (o : Option ℤ). leaves o (x k) (gain ws x)) p.0 ∙ sym p.1

-- ---- where the null choice isn't best, a bid that offers as much more for each good has the same best set

abbrev IsRaised : Option ℤ → Option ℤ → ℕ → Type 0
IsRaised o p a = ((o ≡ None) × (p ≡ None)) ⊎ ((v : ℤ) × (o ≡ Some v) × (p ≡ Some (v +ℤ pos a)))

abbrev Raised : Offers → Offers → ℕ → Type 0
Raised vs ws a = (k : ℕ) → IsRaised (offer vs (suc k)) (offer ws (suc k)) a

raised_upper : (vs ws : Offers) (x : Vector) (a : ℕ) → Raised vs ws a → (k : ℕ) (v : ℤ) → offer ws k ≡ Some v → (v -ℤ x k) ≤ℤ (gain vs x +ℤ pos a)
raised_upper vs ws x a h zero v o =
    let same : pos 0 ≡ v = cc o in
    let u = (gain_is vs x).upper 0 (pos 0) refl in
    omega (arith, ints)
raised_upper vs ws x a h (suc k) v o = at (h k)
  where
    at : IsRaised (offer vs (suc k)) (offer ws (suc k)) a → (v -ℤ x (suc k)) ≤ℤ (gain vs x +ℤ pos a)
    at (inl p) = absurd (let z : Some v ≡ None = sym o ∙ p.1 in cc z)
    at (inr p) =
        let same : v ≡ p.0 +ℤ pos a = (let z : Some v ≡ Some (p.0 +ℤ pos a) = sym o ∙ p.2 in cc z) in
        let u = (gain_is vs x).upper (suc k) p.0 p.1 in
        omega (arith, ints)

raised_place : (vs ws : Offers) (x : Vector) (a : ℕ) → Raised vs ws a → best vs x 0 ≡ false → (k : ℕ) (v : ℤ) → offer vs k ≡ Some v → v -ℤ x k ≡ gain vs x
    → (j : ℕ) × (w : ℤ) × (offer ws j ≡ Some w) × (w -ℤ x j ≡ gain vs x +ℤ pos a)
raised_place vs ws x a h null zero v o r = absurd (leaves_not (offer vs 0) (x 0) (gain vs x) v o null r)
raised_place vs ws x a h null (suc k) v o r = at (h k)
  where
    at : IsRaised (offer vs (suc k)) (offer ws (suc k)) a → (j : ℕ) × (w : ℤ) × (offer ws j ≡ Some w) × (w -ℤ x j ≡ gain vs x +ℤ pos a)
    at (inl p) = absurd (let z : Some v ≡ None = sym o ∙ p.0 in cc z)
    at (inr p) =
        let same : v ≡ p.0 = (let z : Some v ≡ Some p.0 = sym o ∙ p.1 in cc z) in
        (suc k, p.0 +ℤ pos a, p.2, omega (arith, ints))

raised_gain : (vs ws : Offers) (x : Vector) (a : ℕ) → Raised vs ws a → best vs x 0 ≡ false → gain ws x ≡ gain vs x +ℤ pos a
raised_gain vs ws x a h null =
    let r = gain_is vs x in
    let p = raised_place vs ws x a h null r.place r.value r.offered r.reached in
    gain_one ws x _ _ (gain_is ws x) (record { upper = raised_upper vs ws x a h; place = p.0; value = p.1; offered = p.2; reached = p.3 })

raised : (vs ws : Offers) (x : Vector) (a : ℕ) → Raised vs ws a → best vs x 0 ≡ false → (k : ℕ) → best ws x k ≡ best vs x k
raised vs ws x a h null zero =
    let g = raised_gain vs ws x a h null in
    let u = (gain_is vs x).upper 0 (pos 0) refl in
    not_true (best ws x 0) (λ t.
    (let b = (int_eq_is (pos 0 -ℤ x 0) (gain ws x)).0 t in
    leaves_not (Some (pos 0)) (x 0) (gain vs x) (pos 0) refl null (omega (arith, ints)))) ∙ sym null
raised vs ws x a h null (suc k) = at (h k)
  where
    at : IsRaised (offer vs (suc k)) (offer ws (suc k)) a → best ws x (suc k) ≡ best vs x (suc k)
    at (inl p) = ap (λ (o : Option ℤ). leaves o (x (suc k)) (gain ws x)) p.1 ∙ sym (ap (λ (o : Option ℤ). leaves o (x (suc k)) (gain vs x)) p.0)
    at (inr p) =
        let g = raised_gain vs ws x a h null in
        let more = int_eq_is ((p.0 +ℤ pos a) -ℤ x (suc k)) (gain ws x) in
        let less = int_eq_is (p.0 -ℤ x (suc k)) (gain vs x) in
        let same : int_eq ((p.0 +ℤ pos a) -ℤ x (suc k)) (gain ws x) ≡ int_eq (p.0 -ℤ x (suc k)) (gain vs x) =
        same_bool _ _ (λ t. less.1 (let e = more.0 t in omega (arith, ints))) (λ t. more.1 (let e = less.0 t in omega (arith, ints))) in
        ap (λ (o : Option ℤ). leaves o (x (suc k)) (gain ws x)) p.2 ∙ same ∙ sym (ap (λ (o : Option ℤ). leaves o (x (suc k)) (gain vs x)) p.1)

-- ---- what the bids of a block offer

none_at : (n k : ℕ) → ◌≡◌ {A = Option ℤ} (get_or (replicate n None) k None) None
none_at zero k = refl
none_at (suc n) zero = refl
none_at (suc n) (suc k) = none_at n k

equal_or_not : (a b : ℕ) → (a ≡ b) ⊎ (a ≢ b)
equal_or_not a b = elim (cases_Bool (eqb a b)) [
  | inl t ↦ inl (grind (arith, nat_tests))
  | inr f ↦ inr (λ e. absurd (grind (arith, nat_tests)))
]

one_here : (i : ℕ) (u : ℤ) → i < 5 → get_or (one_value i u) i None ≡ Some u
one_here i u h = get_or-set_same (replicate 5 None) i (Some u) None h

one_else : (i k : ℕ) (u : ℤ) → k ≢ i → get_or (one_value i u) k None ≡ None
one_else i k u d = get_or-set_other (replicate 5 None) i k (Some u) None d ∙ none_at 5 k

two_second : (i j : ℕ) (u v : ℤ) → j < 5 → get_or (two_values i u j v) j None ≡ Some v
two_second i j u v h = get_or-set_same (one_value i u) j (Some v) None (omega (arith, length-set (replicate 5 None) i (Some u)))

two_other : (i j k : ℕ) (u v : ℤ) → k ≢ j → get_or (two_values i u j v) k None ≡ get_or (one_value i u) k None
two_other i j k u v d = get_or-set_other (one_value i u) j k (Some v) None d

-- the bid for the first good alone, where the second isn't best
first_narrower : (i j : ℕ) (u v : ℤ) (x : Vector) → i ≢ j → best (two_values i u j v) x (suc j) ≡ false → Narrower (two_values i u j v) (one_value i u) x
first_narrower i j u v x d f zero = inl refl
first_narrower i j u v x d f (suc k) = at (equal_or_not k j)
  where
    at : (k ≡ j) ⊎ (k ≢ j) → (offer (one_value i u) (suc k) ≡ offer (two_values i u j v) (suc k)) ⊎ ((offer (one_value i u) (suc k) ≡ None) × (best (two_values i u j v) x (suc k) ≡ false))
    at (inl e) = inr (one_else i k u (λ z. d (sym z ∙ e)), ap (λ (m : ℕ). best (two_values i u j v) x (suc m)) e ∙ f)
    at (inr n) = inl (sym (two_other i j k u v n))

-- the bid for the second alone, where the first isn't best
second_narrower : (i j : ℕ) (u v : ℤ) (x : Vector) → j < 5 → i ≢ j → best (two_values i u j v) x (suc i) ≡ false → Narrower (two_values i u j v) (one_value j v) x
second_narrower i j u v x l d f zero = inl refl
second_narrower i j u v x l d f (suc k) = at (equal_or_not k j) (equal_or_not k i)
  where
    at : (k ≡ j) ⊎ (k ≢ j) → (k ≡ i) ⊎ (k ≢ i) → (offer (one_value j v) (suc k) ≡ offer (two_values i u j v) (suc k)) ⊎ ((offer (one_value j v) (suc k) ≡ None) × (best (two_values i u j v) x (suc k) ≡ false))
    at (inl e) c = inl (ap (λ (m : ℕ). get_or (one_value j v) m None) e ∙ one_here j v l ∙ sym (ap (λ (m : ℕ). get_or (two_values i u j v) m None) e ∙ two_second i j u v l))
    at (inr n) (inl e) = inr (one_else j k v n, ap (λ (m : ℕ). best (two_values i u j v) x (suc m)) e ∙ f)
    at (inr n) (inr m) = inl (one_else j k v n ∙ sym (two_other i j k u v n ∙ one_else i k u m))

-- the bid for both that offers more
both_raised : (i j a : ℕ) (u v p q : ℤ) → i < 5 → j < 5 → p ≡ u +ℤ pos a → q ≡ v +ℤ pos a → Raised (two_values i u j v) (two_values i p j q) a
both_raised i j a u v p q h l e f k = at (equal_or_not k j) (equal_or_not k i)
  where
    at : (k ≡ j) ⊎ (k ≢ j) → (k ≡ i) ⊎ (k ≢ i) → IsRaised (offer (two_values i u j v) (suc k)) (offer (two_values i p j q) (suc k)) a
    at (inl g) c = inr (v, ap (λ (m : ℕ). get_or (two_values i u j v) m None) g ∙ two_second i j u v l, ap (λ (m : ℕ). get_or (two_values i p j q) m None) g ∙ two_second i j p q l ∙ ap Some f)
    at (inr n) (inl g) = inr (u, two_other i j k u v n ∙ ap (λ (m : ℕ). get_or (one_value i u) m None) g ∙ one_here i u h, two_other i j k p q n ∙ ap (λ (m : ℕ). get_or (one_value i p) m None) g ∙ one_here i p h ∙ ap Some e)
    at (inr n) (inr m) = inl (two_other i j k u v n ∙ one_else i k u m, two_other i j k p q n ∙ one_else i k p m)

-- ---- the facet weight of a block

-- three choices can't be among two
three : (c d i j : ℕ) → i ≢ j → (0 ≡ c) ⊎ (0 ≡ d) → (suc i ≡ c) ⊎ (suc i ≡ d) → (suc j ≡ c) ⊎ (suc j ≡ d) → ⊥
three c d i j n (inl p) (inl q) r = omega arith
three c d i j n (inl p) (inr q) (inl r) = omega arith
three c d i j n (inl p) (inr q) (inr r) = omega arith
three c d i j n (inr p) (inr q) r = omega arith
three c d i j n (inr p) (inl q) (inr r) = omega arith
three c d i j n (inr p) (inl q) (inl r) = omega arith

-- whether the best set is these two choices
abbrev is_pair : Vector → ℕ → ℕ → Offers → Bool
is_pair x c d vs = same_set 6 (best vs x) (pair c d)

pair_again : (vs ws : Offers) (x : Vector) (c d : ℕ) → is_pair x c d vs ≡ true → ((k : ℕ) → best ws x k ≡ best vs x k) → is_pair x c d ws ≡ true
pair_again vs ws x c d t same = same_set-intro 6 (best ws x) (pair c d) (λ k l. same k ∙ same_set-true 6 (best vs x) (pair c d) t k l)

one_of : (i j u v a c d : ℕ) (x : Vector) → i < 5 → j < 5 → i ≢ j → is_pair x c d (two_values i (pos u) j (pos v)) ≡ true
    → (is_pair x c d (one_value i (pos u)) ≡ true) ⊎ ((is_pair x c d (one_value j (pos v)) ≡ true) ⊎ (is_pair x c d (two_values i (pos (u + a)) j (pos (v + a))) ≡ true))
one_of i j u v a c d x h l n t =
    let vs : Offers = two_values i (pos u) j (pos v) in
    let s = same_set-true 6 (best vs x) (pair c d) t in
    by_test (best vs x 0)
    (λ null. by_test (best vs x (suc j))
    (λ second. by_test (best vs x (suc i))
    (λ first. absurd (three c d i j n (pair-true c d 0 (sym (s 0 (omega arith)) ∙ null)) (pair-true c d (suc i) (sym (s (suc i) (omega arith)) ∙ first)) (pair-true c d (suc j) (sym (s (suc j) (omega arith)) ∙ second))))
    (λ first. inr (inl (pair_again vs (one_value j (pos v)) x c d t (narrower vs (one_value j (pos v)) x (second_narrower i j (pos u) (pos v) x l n first))))))
    (λ second. inl (pair_again vs (one_value i (pos u)) x c d t (narrower vs (one_value i (pos u)) x (first_narrower i j (pos u) (pos v) x n second)))))
    (λ null. inr (inr (pair_again vs (two_values i (pos (u + a)) j (pos (v + a))) x c d t
    (raised vs (two_values i (pos (u + a)) j (pos (v + a))) x a (both_raised i j a (pos u) (pos v) (pos (u + a)) (pos (v + a)) h l (omega (arith, ints)) (omega (arith, ints))) null))))

pub least : (t : Bool) (w : ℕ) → pos 0 ≤ℤ cond t (pos w) (pos 0)
least true w = omega (arith, ints)
least false w = omega (arith, ints)

four_weights : (t1 t2 t3 t4 : Bool) (w : ℕ) → (t4 ≡ true → (t1 ≡ true) ⊎ ((t2 ≡ true) ⊎ (t3 ≡ true)))
    → pos 0 ≤ℤ (cond t1 (pos w) (pos 0) +ℤ (cond t2 (pos w) (pos 0) +ℤ (cond t3 (pos w) (pos 0) +ℤ (cond t4 (neg_ℤ (pos w)) (pos 0) +ℤ pos 0))))
four_weights t1 t2 t3 false w h = let a = least t1 w in let b = least t2 w in let c = least t3 w in omega (arith, ints)
four_weights true t2 t3 true w h = let b = least t2 w in let c = least t3 w in omega (arith, ints)
four_weights false true t3 true w h = let c = least t3 w in omega (arith, ints)
four_weights false false true true w h = omega (arith, ints)
four_weights false false false true w h = absurd (elim (h refl) [ inl e ↦ true≢false (sym e) | inr r ↦ elim r [ inl e ↦ true≢false (sym e) | inr e ↦ true≢false (sym e) ] ])

pub block_facet : (i j w u v a c d : ℕ) (x : Vector) → i < 5 → j < 5 → i ≢ j → pos 0 ≤ℤ facet_weight 5 c d (block_bids i j w u v a) x
block_facet i j w u v a c d x h l n =
    four_weights (is_pair x c d (one_value i (pos u))) (is_pair x c d (one_value j (pos v))) (is_pair x c d (two_values i (pos (u + a)) j (pos (v + a)))) (is_pair x c d (two_values i (pos u) j (pos v))) w
    (one_of i j u v a c d x h l n)
