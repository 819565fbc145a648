-- Canonical lists: there is one of each list of bids, two lists have the same one exactly where each value vector has the same weight in both, and then they
-- have the same indirect utility.
use Rattle.std.proofs.Common.{◌≡◌, ◌≢◌, ◌↔◌, ◌⊎◌, inl, inr, Bool, cond, List, [], ◌∷◌, map, ℤ, pos, ◌+ℤ◌, ◌*ℤ◌, refl, arith, sym, ap, subst, ◌∙◌, All, int_eq}
use Rattle.std.specs.List.{AllByRecursion, Contains}
use Rattle.std.specs.List.Sorted.{IsStrictlySortedBy}
use Rattle.std.specs.declared.cmp.Ordering.{Ordering}
use Rattle.std.specs.declared.cmp.Ordering.TheVariants.{Less, Equal, Greater}
use Rattle.std.specs.Ordering.{is_eq}
use Rattle.std.proofs.lemmas.Int.{ints}
use Rattle.std.proofs.lemmas.Bool.{false≢true}
use Rattle.std.proofs.lemmas.List.Elements.{All-cons, All-contains, All-head, All-nil, All-tail, Contains-append_cases, Contains-append_right, Contains-get_or}
use Rattle.std.proofs.lemmas.Map.Keys.{sorted_head, sorted_tail}
use Rattle.mix_num.specs.Vectors.{Vector}
use Rattle.mix_num.proofs.Equalities.{int_eq_is}
use Rattle.mix_bids.specs.Offers.{Offers, gain}
use Rattle.mix_bids.specs.Bids.{utility}
use Rattle.mix_bids.specs.declared.bid.Bid.{Bid}
use Rattle.mix_bids.proofs.Cases.{by_test}
use Rattle.mix_canon.specs.declared.term.Term.{Term}
use Rattle.mix_canon.specs.Canons.{ArePairsOf, IsCanonOf, value_order, vectors, weight_of}
use Rattle.mix_canon.proofs.Orders.{exact_values, level_itself, same_itself, same_values}
use Rattle.mix_canon.proofs.Gatherings.{IsBelow, IsGathered, Weighted, absent, gathered, gathered_is, one_gathered, same_sums, sum_of, weight-gathered, weight_in}

-- ---- lists as weighted vectors
abbrev pub weighted_bids : List Bid → Weighted
weighted_bids bs = map (λ b. (b.values.items, b.weight)) bs

abbrev pub weighted_terms : List Term → Weighted
weighted_terms ts = map (λ t. (t.values.items, t.weight)) ts

weight-bids : (v : Offers) (bs : List Bid) → weight_in v (weighted_bids bs) ≡ weight_of v bs
weight-bids v [] = refl
weight-bids v (b ∷ bs) = ap (λ (a : ℤ). cond (is_eq (value_order v b.values.items)) b.weight (pos 0) +ℤ a) (weight-bids v bs)

utility-bids : (bs : List Bid) (x : Vector) → utility bs x ≡ sum_of (λ v. gain v x) (weighted_bids bs)
utility-bids [] x = refl
utility-bids (b ∷ bs) x = ap (λ (a : ℤ). (b.weight *ℤ gain b.values.items x) +ℤ a) (utility-bids bs x)

-- lists in which each value vector has the same weight have the same indirect utility
pub regrouped : (bs cs : List Bid) → ((v : Offers) → weight_of v bs ≡ weight_of v cs) → (x : Vector) → utility bs x ≡ utility cs x
regrouped bs cs h x =
    utility-bids bs x
    ∙ same_sums (λ v. gain v x) (weighted_bids bs) (weighted_bids cs) (λ v. weight-bids v bs ∙ h v ∙ sym (weight-bids v cs))
    ∙ sym (utility-bids cs x)

-- ---- a canonical list, as weighted vectors
below_terms : (v : Offers) (ts : List Term) → AllByRecursion (λ w. value_order v w ≡ Less) (vectors ts) → IsBelow v (weighted_terms ts)
below_terms v [] a = tt
below_terms v (t ∷ ts) a = (a.0, below_terms v ts a.1)

pub gathered_terms : (ts : List Term) → IsStrictlySortedBy value_order (vectors ts) → All (λ t. t.weight ≢ pos 0) ts → IsGathered (weighted_terms ts)
gathered_terms [] s a = tt
gathered_terms (t ∷ ts) s a = (
  below_terms t.values.items ts (sorted_head value_order t.values.items (vectors ts) s),
  All-head (λ t. t.weight ≢ pos 0) t ts a,
  gathered_terms ts (sorted_tail value_order t.values.items (vectors ts) s) (All-tail (λ t. t.weight ≢ pos 0) t ts a),
)

below_each : (u v : Offers) (ps : Weighted) → u ≡ v → IsBelow v ps → IsBelow u ps
below_each u v ps e b = subst (λ (z : Offers). IsBelow z ps) (sym e) b

-- a vector that has a pair, in a list of pairs with their vectors' weights, has its weight
found : (f : Offers → ℤ) (v : Offers) (ts : List Term) → IsGathered (weighted_terms ts) → All (λ t. t.weight ≡ f t.values.items) ts → Contains (vectors ts) v → weight_in v (weighted_terms ts) ≡ f v
found f v [] g a c = absurd (let l = c.1 in omega arith)
found f v (t ∷ ts) g a c = at (value_order v t.values.items) refl (Contains-append_cases (t.values.items ∷ []) (vectors ts) v c) (found f v ts g.2 (All-tail (λ t. t.weight ≡ f t.values.items) t ts a))
  where
    head_of : Contains (t.values.items ∷ []) v → v ≡ t.values.items
    head_of d = All-contains (λ w. w ≡ t.values.items) (t.values.items ∷ []) v (All-cons (λ w. w ≡ t.values.items) t.values.items [] refl (All-nil (λ w. w ≡ t.values.items))) d

    at : (o : Ordering) → value_order v t.values.items ≡ o → Contains (t.values.items ∷ []) v ⊎ Contains (vectors ts) v → (Contains (vectors ts) v → weight_in v (weighted_terms ts) ≡ f v)
        → weight_in v (weighted_terms (t ∷ ts)) ≡ f v
    at Equal e d r =
        let q = exact_values v t.values.items e in
        let w = All-head (λ t. t.weight ≡ f t.values.items) t ts a in
        let p = ap (λ (b : Bool). cond b t.weight (pos 0)) (same_itself v t.values.items q) in
        let z = absent v (weighted_terms ts) (below_each v t.values.items (weighted_terms ts) q g.0) in
        let h = ap f q in
        omega (arith, ints)
    at Less e (inl d) r = absurd (let q = head_of d in let l = level_itself t.values.items in let s = ap (λ (u : Offers). value_order u t.values.items) q in cc)
    at Greater e (inl d) r = absurd (let q = head_of d in let l = level_itself t.values.items in let s = ap (λ (u : Offers). value_order u t.values.items) q in cc)
    at Less e (inr d) r = let p = ap (λ (o : Ordering). cond (is_eq o) t.weight (pos 0)) e in let h = r d in omega (arith, ints)
    at Greater e (inr d) r = let p = ap (λ (o : Ordering). cond (is_eq o) t.weight (pos 0)) e in let h = r d in omega (arith, ints)

-- a vector of weight 0 has no pair
none_found : (f : Offers → ℤ) (v : Offers) (ts : List Term) → f v ≡ pos 0 → All (λ t. t.weight ≡ f t.values.items) ts → All (λ t. t.weight ≢ pos 0) ts → weight_in v (weighted_terms ts) ≡ pos 0
none_found f v [] e a s = refl
none_found f v (t ∷ ts) e a s =
    let h = none_found f v ts e (All-tail (λ t. t.weight ≡ f t.values.items) t ts a) (All-tail (λ t. t.weight ≢ pos 0) t ts s) in
    by_test (is_eq (value_order v t.values.items))
    (λ q.
    let w = All-head (λ t. t.weight ≡ f t.values.items) t ts a in
    let g = ap f (same_values v t.values.items q) in
    absurd (All-head (λ t. t.weight ≢ pos 0) t ts s (w ∙ sym g ∙ e)))
    (λ q. let p = ap (λ (b : Bool). cond b t.weight (pos 0)) q in omega (arith, ints))

-- each vector has in its list of pairs the weight that it has
pub pair_weight : (f : Offers → ℤ) (ts : List Term) → ArePairsOf f ts → (v : Offers) → weight_in v (weighted_terms ts) ≡ f v
pair_weight f ts is v =
    let e = int_eq_is (f v) (pos 0) in
    by_test (int_eq (f v) (pos 0))
    (λ t. none_found f v ts (e.0 t) is.weights is.some ∙ sym (e.0 t))
    (λ t. found f v ts (gathered_terms ts is.order is.some) is.weights (is.every v (λ z. false≢true (sym t ∙ e.1 z))))

-- ---- two canonical lists
abbrev pub as_term : Offers × ℤ → Term
as_term p = record { values = record { items = p.0 }; weight = p.1 }

back : (ts : List Term) → map as_term (weighted_terms ts) ≡ ts
back [] = refl
back (t ∷ ts) = ap (λ (us : List Term). t ∷ us) (back ts)

-- lists have the same canonical list exactly where each vector has the same weight in both
pub same_canon : (bs cs : List Bid) (ts us : List Term) → IsCanonOf bs ts → IsCanonOf cs us → ((v : Offers) → weight_of v bs ≡ weight_of v cs) ↔ (ts ≡ us)
same_canon bs cs ts us is also = (
  λ h.
      let e = one_gathered (weighted_terms ts) (weighted_terms us) (gathered_terms ts is.order is.some) (gathered_terms us also.order also.some)
      (λ v. pair_weight (λ v. weight_of v bs) ts is v ∙ h v ∙ sym (pair_weight (λ v. weight_of v cs) us also v)) in
      sym (back ts) ∙ ap (map as_term) e ∙ back us,
  λ e v. sym (pair_weight (λ v. weight_of v bs) ts is v) ∙ ap (λ (qs : List Term). weight_in v (weighted_terms qs)) e ∙ pair_weight (λ v. weight_of v cs) us also v,
)

-- ---- there is a canonical list
abbrev pub canonical : List Bid → List Term
canonical bs = map as_term (gathered (weighted_bids bs))

vectors_back : (ps : Weighted) → vectors (map as_term ps) ≡ map (λ p. p.0) ps
vectors_back [] = refl
vectors_back (p ∷ ps) = ap (λ (qs : List Offers). p.0 ∷ qs) (vectors_back ps)

sorted_back : (ps : Weighted) → IsGathered ps → IsStrictlySortedBy value_order (map (λ p. p.0) ps)
unfolding IsStrictlySortedBy
sorted_back [] g = tt
sorted_back (p ∷ ps) g = (below ps g.0, sorted_back ps g.2)
  where
    below : (qs : Weighted) → IsBelow p.0 qs → AllByRecursion (λ w. value_order p.0 w ≡ Less) (map (λ q. q.0) qs)
    below [] b = tt
    below (q ∷ qs) b = (b.0, below qs b.1)

some_back : (ps : Weighted) → IsGathered ps → All (λ t. t.weight ≢ pos 0) (map as_term ps)
some_back [] g = All-nil (λ t. t.weight ≢ pos 0)
some_back (p ∷ ps) g = All-cons (λ t. t.weight ≢ pos 0) (as_term p) (map as_term ps) g.1 (some_back ps g.2)

-- the pairs of a gathered list weigh what their vectors do
weights_back : (f : Offers → ℤ) (ps : Weighted) → IsGathered ps → AllByRecursion (λ p. p.1 ≡ f p.0) ps → All (λ t. t.weight ≡ f t.values.items) (map as_term ps)
weights_back f [] g a = All-nil (λ t. t.weight ≡ f t.values.items)
weights_back f (p ∷ ps) g a = All-cons (λ t. t.weight ≡ f t.values.items) (as_term p) (map as_term ps) a.0 (weights_back f ps g.2 a.1)

-- the weights that are left, at the vectors of the pairs that are left
each_weight : (f : Offers → ℤ) (ps : Weighted) → IsGathered ps → ((v : Offers) → (weight_in v ps ≡ f v) ⊎ (weight_in v ps ≡ pos 0)) → AllByRecursion (λ p. p.1 ≡ f p.0) ps
each_weight f [] g h = tt
each_weight f (p ∷ ps) g h = (first (h p.0), each_weight f ps g.2 (λ v. rest v (value_order v p.0) refl (h v)))
  where
    whole : weight_in p.0 (p ∷ ps) ≡ p.1
    whole =
        let t = ap (λ (b : Bool). cond b p.1 (pos 0)) (same_itself p.0 p.0 refl) in
        let a = absent p.0 ps g.0 in
        omega (arith, ints)

    first : (weight_in p.0 (p ∷ ps) ≡ f p.0) ⊎ (weight_in p.0 (p ∷ ps) ≡ pos 0) → p.1 ≡ f p.0
    first (inl e) = sym whole ∙ e
    first (inr e) = absurd (g.1 (sym whole ∙ e))

    rest : (v : Offers) (o : Ordering) → value_order v p.0 ≡ o → (weight_in v (p ∷ ps) ≡ f v) ⊎ (weight_in v (p ∷ ps) ≡ pos 0) → (weight_in v ps ≡ f v) ⊎ (weight_in v ps ≡ pos 0)
    rest v Equal e s = inr (absent v ps (below_each v p.0 ps (exact_values v p.0 e) g.0))
    rest v Less e (inl s) = inl (let q = ap (λ (o : Ordering). cond (is_eq o) p.1 (pos 0)) e in omega (arith, ints))
    rest v Less e (inr s) = inr (let q = ap (λ (o : Ordering). cond (is_eq o) p.1 (pos 0)) e in omega (arith, ints))
    rest v Greater e (inl s) = inl (let q = ap (λ (o : Ordering). cond (is_eq o) p.1 (pos 0)) e in omega (arith, ints))
    rest v Greater e (inr s) = inr (let q = ap (λ (o : Ordering). cond (is_eq o) p.1 (pos 0)) e in omega (arith, ints))

-- a vector that weighs something is there
there : (v : Offers) (ps : Weighted) → weight_in v ps ≢ pos 0 → Contains (map (λ p. p.0) ps) v
there v [] h = absurd (h refl)
there v (p ∷ ps) h = by_test (is_eq (value_order v p.0))
    (λ t. let e = same_values v p.0 t in subst (λ (z : Offers). Contains (p.0 ∷ map (λ q. q.0) ps) z) (sym e) (Contains-get_or (p.0 ∷ map (λ q. q.0) ps) 0 v (omega arith)))
    (λ t. Contains-append_right (p.0 ∷ []) (map (λ q. q.0) ps) v (there v ps (λ z. h (let q = ap (λ (b : Bool). cond b p.1 (pos 0)) t in omega (arith, ints)))))

-- a gathered list with these weights gives their pairs
pub pairs_of_gathered : (f : Offers → ℤ) (ps : Weighted) → IsGathered ps → ((v : Offers) → weight_in v ps ≡ f v) → ArePairsOf f (map as_term ps)
pairs_of_gathered f ps g w = record {
  weights = weights_back f ps g (each_weight f ps g (λ v. inl (w v)));
  some = some_back ps g;
  every = λ v h. subst (λ (us : List Offers). Contains us v) (sym (vectors_back ps)) (there v ps (λ z. h (sym (w v) ∙ z)));
  order = subst (IsStrictlySortedBy value_order) (sym (vectors_back ps)) (sorted_back ps g);
}

pub canonical_is : (bs : List Bid) → IsCanonOf bs (canonical bs)
canonical_is bs = pairs_of_gathered (λ v. weight_of v bs) (gathered (weighted_bids bs)) (gathered_is (weighted_bids bs)) (λ v. weight-gathered v (weighted_bids bs) ∙ weight-bids v bs)
