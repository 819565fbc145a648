-- The facet weight of two choices is the weight of the bids of one level that are counted.
use Rattle.std.proofs.Common.{◌≡◌, ℕ, suc, ◌≤◌, ◌≢◌, Bool, true, false, cond, List, [], ◌∷◌, ℤ, pos, ◌+ℤ◌, ◌-ℤ◌, ◌<ℤ◌, refl, arith, sym, ap, ap₂, ◌∙◌, Option, Some, None, length}
use Rattle.std.proofs.lemmas.Int.{ints}
use Rattle.std.proofs.lemmas.Bool.{false≢true}
use Rattle.std.proofs.lemmas.Bool.Decides.{nat_tests}
use Rattle.mix_num.specs.Vectors.{Vector}
use Rattle.mix_bids.specs.Offers.{offer, best, same_set, pair}
use Rattle.mix_bids.specs.Bids.{facet_weight}
use Rattle.mix_bids.specs.declared.bid.Bid.{Bid}
use Rattle.mix_bids.proofs.Cases.{not_true, same_bool}
use Rattle.mix_bids.proofs.Sets.{all_to-true, all_to-intro}
use Rattle.mix_bids.proofs.Gains.{offered_within}
use Rattle.mix_num.proofs.Equalities.{int_eq_is}
use Rattle.mix_bids.proofs.Lengths.{AreOver, first_over, rest_over}
use Rattle.mix_bids.specs.Leads.{lead, lead_of}
use Rattle.mix_bids.specs.Levels.{is_lead, has_lead, level_bids}
use Rattle.mix_facets.specs.Counted.{is_below, is_counted, weight_counted}
use Rattle.mix_facets.proofs.Exacts.{IsTorn, not_pair, torn_of, torn_to}

-- by how much each price lies above that of the choice i
abbrev pub above : ℕ → Vector → Vector
above i x = λ c. x c -ℤ x i

-- ---- one bid

-- what is known of two offers where the one leads the other by d
pub record Lead (o p : Option ℤ) (d : ℤ) : Type 0 where
  pub greater : ℤ
  pub lesser : ℤ
  pub offers_greater : o ≡ Some greater
  pub offers_lesser : p ≡ Some lesser
  pub is : greater -ℤ lesser ≡ d

pub lead_is : (o p : Option ℤ) (d : ℤ) → is_lead (lead o p) d ≡ true → Lead o p d
lead_is None p d h = absurd (false≢true h)
lead_is (Some a) None d h = absurd (false≢true h)
lead_is (Some a) (Some b) d h = record { greater = a; lesser = b; offers_greater = refl; offers_lesser = refl; is = (int_eq_is (a -ℤ b) d).0 h }

pub lead_at : (o p : Option ℤ) (u v d : ℤ) → o ≡ Some u → p ≡ Some v → u -ℤ v ≡ d → is_lead (lead o p) d ≡ true
lead_at None p u v d e f h = absurd (cc)
lead_at (Some a) None u v d e f h = absurd (cc)
lead_at (Some a) (Some b) u v d e f h =
    let p : a ≡ u = cc in
    let q : b ≡ v = cc in
    (int_eq_is (a -ℤ b) d).1 (omega (arith, ints))

below_at : (o p : Option ℤ) (u y : ℤ) → p ≡ Some u → ((v : ℤ) → o ≡ Some v → (v -ℤ u) <ℤ y) → is_below (lead o p) y ≡ true
below_at None p u y e h = refl
below_at (Some v) None u y e h = refl
below_at (Some v) (Some w) u y e h =
    let q : w ≡ u = cc in
    let k = h v refl in
    let r : (v -ℤ w) <ℤ y = omega (arith, ints) in
    grind (arith, ints)

below_is : (o p : Option ℤ) (u y v : ℤ) → p ≡ Some u → is_below (lead o p) y ≡ true → o ≡ Some v → (v -ℤ u) <ℤ y
below_is None p u y v e h k = absurd (cc)
below_is (Some w) None u y v e h k = absurd (cc)
below_is (Some w) (Some t) u y v e h k =
    let p : w ≡ v = cc in
    let q : t ≡ u = cc in
    let r : (w -ℤ t) <ℤ y = grind (arith, ints) in
    omega (arith, ints)

true_beside : (b q : Bool) → (b ≡ false → q ≡ true) → cond b true q ≡ true
true_beside true q h = refl
true_beside false q h = h refl

beside_pair : (i j c : ℕ) → pair i j c ≡ false → (c ≢ i) × (c ≢ j)
beside_pair i j c e =
    (λ q. let r : pair i j c ≡ true = grind (arith, nat_tests) in false≢true (sym e ∙ r), λ q. let r : pair i j c ≡ true = grind (arith, nat_tests) in false≢true (sym e ∙ r))

-- a bid that is torn between i and j is counted
torn_counted : (n i j : ℕ) (b : Bid) (x : Vector) → IsTorn b.values.items x i j → is_counted n i j (above i x) b ≡ true
torn_counted n i j b x e = all_to-intro (suc n) _ (λ c l. true_beside (pair i j c) _ (λ f.
    let q = beside_pair i j c f in
    below_at (offer b.values.items c) (offer b.values.items i) e.first (x c -ℤ x i) e.offers_first (λ v o. let r = e.rest c v o q.0 q.1 in omega (arith, ints))))

-- a bid of the level that is counted is torn between i and j
counted_torn : (n i j : ℕ) (b : Bid) (x : Vector) → length b.values.items ≤ n → Lead (offer b.values.items i) (offer b.values.items j) (x i -ℤ x j) → is_counted n i j (above i x) b ≡ true → IsTorn b.values.items x i j
counted_torn n i j b x l t h = record {
  first = t.greater;
  second = t.lesser;
  offers_first = t.offers_greater;
  offers_second = t.offers_lesser;
  tie = let e = t.is in omega (arith, ints);
  rest = λ k v o p q.
      let g = all_to-true (suc n) (λ c. cond (pair i j c) true (is_below (lead_of b c i) (x c -ℤ x i))) h k (omega (arith, offered_within b.values.items k v o)) in
      let f = sym (ap (λ z. cond z true (is_below (lead_of b k i) (x k -ℤ x i))) (not_pair i j k p q)) ∙ g in
      let r = below_is (offer b.values.items k) (offer b.values.items i) t.greater (x k -ℤ x i) v t.offers_greater f o in
      omega (arith, ints);
}

-- ---- a list

-- the facet weight is the weight of the bids of the level of x that are counted
pub facet_counted : (n i j : ℕ) (bs : List Bid) (x : Vector) → AreOver n bs → i ≤ n → j ≤ n → facet_weight n i j bs x ≡ weight_counted n i j (level_bids i j (x i -ℤ x j) bs) (above i x)
facet_counted n i j [] x o p q = refl
facet_counted n i j (b ∷ bs) x o p q = at (has_lead i j (x i -ℤ x j) b) refl (facet_counted n i j bs x (rest_over n b bs o) p q)
  where
    l : length b.values.items ≤ n
    l = omega (arith, first_over n b bs o)

    at : (t : Bool) → has_lead i j (x i -ℤ x j) b ≡ t → facet_weight n i j bs x ≡ weight_counted n i j (level_bids i j (x i -ℤ x j) bs) (above i x) → cond (same_set (suc n) (best b.values.items x) (pair i j)) b.weight (pos 0) +ℤ facet_weight n i j bs x ≡ weight_counted n i j (cond t (b ∷ level_bids i j (x i -ℤ x j) bs) (level_bids i j (x i -ℤ x j) bs)) (above i x)
    at true e h =
        ap₂ (λ u v. cond u b.weight (pos 0) +ℤ v)
        (same_bool (same_set (suc n) (best b.values.items x) (pair i j)) (is_counted n i j (above i x) b)
        (λ s. torn_counted n i j b x (torn_of n b.values.items x i j l p q s))
        (λ s. torn_to n b.values.items x i j (counted_torn n i j b x l (lead_is _ _ _ e) s))) h
    at false e h =
        let s = not_true (same_set (suc n) (best b.values.items x) (pair i j)) (λ t.
        let a = torn_of n b.values.items x i j l p q t in
        let g = a.tie in
        false≢true (sym e ∙ lead_at _ _ a.first a.second (x i -ℤ x j) a.offers_first a.offers_second (omega (arith, ints)))) in
        let u = ap (λ z. cond z b.weight (pos 0)) s in
        omega (arith, ints)
