-- When the best set of a bid is exactly two choices: it offers both, is torn between them, and every other choice leaves less.
use Rattle.std.proofs.Common.{◌≡◌, ℕ, suc, ◌≤◌, ◌<◌, ◌≢◌, ⊎_elim, true, false, eqb, ℤ, ◌-ℤ◌, ◌≤ℤ◌, ◌<ℤ◌, arith, sym, ap, ◌∙◌, subst, Some, length, refl}
use Rattle.std.proofs.lemmas.Int.{ints}
use Rattle.std.proofs.lemmas.Bool.{false≢true}
use Rattle.std.proofs.lemmas.Bool.Decides.{nat_tests}
use Rattle.mix_num.specs.Vectors.{Vector}
use Rattle.mix_bids.specs.Offers.{Offers, offer, gain, best, same_set, pair}
use Rattle.mix_bids.proofs.Cases.{by_test, not_true}
use Rattle.mix_bids.proofs.Sets.{same_set-true, same_set-intro}
use Rattle.mix_bids.proofs.Pairs.{pair-true, pair_first, pair_second}
use Rattle.mix_bids.proofs.Gains.{IsGain, gain_is, gain_one, offered_within}
use Rattle.mix_bids.proofs.BestChoices.{leaves-true, leaves_offer}

-- i and j are offered and leave the same, and every other choice that is offered leaves less
pub record IsTorn (vs : Offers) (x : Vector) (i j : ℕ) : Type 0 where
  pub first : ℤ
  pub second : ℤ
  pub offers_first : offer vs i ≡ Some first
  pub offers_second : offer vs j ≡ Some second
  pub tie : first -ℤ x i ≡ second -ℤ x j
  pub rest : (k : ℕ) (v : ℤ) → offer vs k ≡ Some v → k ≢ i → k ≢ j → (v -ℤ x k) <ℤ (first -ℤ x i)

-- a choice other than the two is not in their set
pub not_pair : (i j k : ℕ) → k ≢ i → k ≢ j → pair i j k ≡ false
not_pair i j k a b = not_true _ (λ h. ⊎_elim a b (pair-true i j k h))

-- a bid whose best set is exactly i and j is torn between them
pub torn_of : (n : ℕ) (vs : Offers) (x : Vector) (i j : ℕ) → length vs ≤ n → i ≤ n → j ≤ n → same_set (suc n) (best vs x) (pair i j) ≡ true → IsTorn vs x i j
torn_of n vs x i j l p q h =
    let s = same_set-true (suc n) (best vs x) (pair i j) h in
    let a = leaves-true (offer vs i) (x i) (gain vs x) (s i (omega arith) ∙ pair_first i j) in
    let b = leaves-true (offer vs j) (x j) (gain vs x) (s j (omega arith) ∙ pair_second i j) in
    let u = gain_is vs x in
    record {
      first = a.value;
      second = b.value;
      offers_first = a.offered;
      offers_second = b.offered;
      tie = a.leaves ∙ sym b.leaves;
      rest = λ k v o d e.
          let r = u.upper k v o in
          let c : v -ℤ x k ≡ gain vs x → ⊥ = λ t. false≢true (sym (not_pair i j k d e) ∙ sym (s k (omega (arith, offered_within vs k v o))) ∙ leaves_offer (offer vs k) (x k) (gain vs x) v o t) in
          let t = a.leaves in
          omega (arith, ints);
    }

-- what the two choices leave is the gain
torn_gain : (vs : Offers) (x : Vector) (i j : ℕ) (e : IsTorn vs x i j) → IsGain vs x (e.first -ℤ x i)
torn_gain vs x i j e = record {
  upper = λ k v o. by_test (eqb k i)
      (λ a. let m : k ≡ i = grind (arith, nat_tests) in
      let P : ℕ → Type 0 = λ z. (v -ℤ x z) ≤ℤ (e.first -ℤ x i) in
      let w : v ≡ e.first = same_value (sym o ∙ ap (offer vs) m ∙ e.offers_first) in
      subst P (sym m) (omega (arith, ints)))
      (λ a. by_test (eqb k j)
      (λ b. let m : k ≡ j = grind (arith, nat_tests) in
      let P : ℕ → Type 0 = λ z. (v -ℤ x z) ≤ℤ (e.first -ℤ x i) in
      let w : v ≡ e.second = same_value (sym o ∙ ap (offer vs) m ∙ e.offers_second) in
      let t = e.tie in
      subst P (sym m) (omega (arith, ints)))
      (λ b. let c : k ≢ i = grind (arith, nat_tests) in
      let d : k ≢ j = grind (arith, nat_tests) in
      let r = e.rest k v o c d in
      omega (arith, ints)));
  place = i;
  value = e.first;
  offered = e.offers_first;
  reached = refl;
}
  where
    same_value : {a b : ℤ} → Some a ≡ Some b → a ≡ b
    same_value {a} {b} h = cc

-- a bid that is torn between i and j has exactly these two as its best set
pub torn_to : (n : ℕ) (vs : Offers) (x : Vector) (i j : ℕ) → IsTorn vs x i j → same_set (suc n) (best vs x) (pair i j) ≡ true
torn_to n vs x i j e = same_set-intro (suc n) (best vs x) (pair i j) at
  where
    g : gain vs x ≡ e.first -ℤ x i
    g = gain_one vs x _ _ (gain_is vs x) (torn_gain vs x i j e)

    at : (k : ℕ) → k < suc n → best vs x k ≡ pair i j k
    at k l = by_test (pair i j k)
        (λ a. ⊎_elim
        (λ m. ap (best vs x) m ∙ leaves_offer (offer vs i) (x i) (gain vs x) e.first e.offers_first (sym g))
        (λ m. ap (best vs x) m ∙ leaves_offer (offer vs j) (x j) (gain vs x) e.second e.offers_second (sym e.tie ∙ sym g))
        (pair-true i j k a) ∙ sym a)
        (λ a. not_true _ (λ b.
        let w = leaves-true (offer vs k) (x k) (gain vs x) b in
        let r = e.rest k w.value w.offered (λ m. false≢true (sym a ∙ ap (pair i j) m ∙ pair_first i j)) (λ m. false≢true (sym a ∙ ap (pair i j) m ∙ pair_second i j)) in
        let t = w.leaves in
        let u = g in
        absurd (omega (arith, ints))) ∙ sym a)
