-- Sets of one choice and of two.
use Rattle.std.proofs.Common.{◌≡◌, ◌≢◌, ◌<◌, ℕ, ◌⊎◌, inl, inr, ⊎_elim, Bool, true, false, cond, eqb, ◌+ℤ◌, refl, arith, sym, ap, ap₂, ◌∙◌}
use Rattle.std.proofs.lemmas.Bool.{false≢true}
use Rattle.std.proofs.lemmas.Bool.Decides.{nat_tests}
use Rattle.mix_num.specs.Vectors.{Choices, bit, only}
use Rattle.mix_bids.specs.Offers.{within, same_set, pair}
use Rattle.mix_bids.proofs.Cases.{by_test, not_true}
use Rattle.mix_bids.proofs.Sets.{within-true, within-false, within-intro, same_set-true, same_set-intro}

pub only_same : (i : ℕ) → only i i ≡ true
only_same i = grind (arith, nat_tests)

pub only-true : (i k : ℕ) → only i k ≡ true → k ≡ i
only-true i k h = grind (arith, nat_tests)

pub pair-true : (i j k : ℕ) → pair i j k ≡ true → (k ≡ i) ⊎ (k ≡ j)
pair-true i j k h = by_test (eqb k i) (λ e. inl (only-true i k e)) (λ e. inr (only-true j k (sym (ap (λ z. cond z true (eqb k j)) e) ∙ h)))

pub pair_first : (i j : ℕ) → pair i j i ≡ true
pair_first i j = ap (λ z. cond z true (eqb i j)) (only_same i)

pub pair_second : (i j : ℕ) → pair i j j ≡ true
pair_second i j = by_test (eqb j i) (λ e. ap (λ z. cond z true (eqb j j)) e) (λ e. ap (λ z. cond z true (eqb j j)) e ∙ only_same j)

-- a set with a member is exactly {i, j}, or lies in {i}, or in {j}, where it lies in {i, j}
pub pair_count : (m : ℕ) (b : Choices) (i j place : ℕ) → i ≢ j → i < m → j < m → place < m → b place ≡ true → (bit (same_set m b (pair i j)) +ℤ bit (within m b (only i))) +ℤ bit (within m b (only j)) ≡ bit (within m b (pair i j))
pair_count m b i j place d p q r e = by_test (within m b (pair i j)) inside beyond
  where
    counted : (s t u v : Bool) → s ≡ same_set m b (pair i j) → t ≡ within m b (only i) → u ≡ within m b (only j) → v ≡ within m b (pair i j) → (bit s +ℤ bit t) +ℤ bit u ≡ bit v → (bit (same_set m b (pair i j)) +ℤ bit (within m b (only i))) +ℤ bit (within m b (only j)) ≡ bit (within m b (pair i j))
    counted s t u v a c f g h = ap₂ (λ y z. y +ℤ bit z) (ap₂ (λ y z. bit y +ℤ bit z) (sym a) (sym c)) (sym f) ∙ h ∙ ap bit g

    not_alone : (i j : ℕ) → i ≢ j → j < m → b j ≡ true → false ≡ within m b (only i)
    not_alone i j d q e = sym (not_true _ (λ h. d (sym (only-true i j (within-true m b (only i) h j q e)))))

    alone : (i j : ℕ) → j < m → within m b (pair i j) ≡ true → b j ≡ false → true ≡ within m b (only i)
    alone i j q w e = sym (within-intro m b (only i) (λ k l t. ⊎_elim (λ a. ap (only i) a ∙ only_same i) (λ a. absurd (false≢true (sym e ∙ ap b (sym a) ∙ t))) (pair-true i j k (within-true m b (pair i j) w k l t))))

    inside : within m b (pair i j) ≡ true → (bit (same_set m b (pair i j)) +ℤ bit (within m b (only i))) +ℤ bit (within m b (only j)) ≡ bit (within m b (pair i j))
    inside w = by_test (b i) (λ x. by_test (b j)
        (λ y. counted true false false true (sym (same_set-intro m b (pair i j) (λ k l. by_test (b k) (λ t. t ∙ sym (within-true m b (pair i j) w k l t)) (λ t. t ∙ sym (not_true _ (λ h. ⊎_elim (λ a. false≢true (sym t ∙ ap b a ∙ x)) (λ a. false≢true (sym t ∙ ap b a ∙ y)) (pair-true i j k h))))))) (not_alone i j d q y) (not_alone j i (λ h. d (sym h)) p x) (sym w) refl)
        (λ y. counted false true false true (sym (not_true _ (λ h. false≢true (sym y ∙ same_set-true m b (pair i j) h j q ∙ pair_second i j)))) (alone i j q w y) (not_alone j i (λ h. d (sym h)) p x) (sym w) refl))
        (λ x. by_test (b j)
        (λ y. counted false false true true (sym (not_true _ (λ h. false≢true (sym x ∙ same_set-true m b (pair i j) h i p ∙ pair_first i j)))) (not_alone i j d q y) (alone j i p (within-intro m b (pair j i) (λ k l t. ⊎_elim (λ a. ap (pair j i) a ∙ pair_second j i) (λ a. ap (pair j i) a ∙ pair_first j i) (pair-true i j k (within-true m b (pair i j) w k l t)))) x) (sym w) refl)
        (λ y. absurd (⊎_elim (λ a. false≢true (sym x ∙ ap b (sym a) ∙ e)) (λ a. false≢true (sym y ∙ ap b (sym a) ∙ e)) (pair-true i j place (within-true m b (pair i j) w place r e)))))

    beyond : within m b (pair i j) ≡ false → (bit (same_set m b (pair i j)) +ℤ bit (within m b (only i))) +ℤ bit (within m b (only j)) ≡ bit (within m b (pair i j))
    beyond w =
        let f = within-false m b (pair i j) w in
        counted false false false false
        (sym (not_true _ (λ h. false≢true (sym f.3 ∙ sym (same_set-true m b (pair i j) h f.0 f.1) ∙ f.2))))
        (sym (not_true _ (λ h. false≢true (sym f.3 ∙ ap (pair i j) (only-true i f.0 (within-true m b (only i) h f.0 f.1 f.2)) ∙ pair_first i j))))
        (sym (not_true _ (λ h. false≢true (sym f.3 ∙ ap (pair i j) (only-true j f.0 (within-true m b (only j) h f.0 f.1 f.2)) ∙ pair_second i j))))
        (sym w) refl

-- no choice above both is in the pair
pub pair_beyond : (i j k : ℕ) → i < k → j < k → pair i j k ≡ false
pair_beyond i j k p q = not_true _ (λ h. ⊎_elim (λ e. absurd (omega arith)) (λ e. absurd (omega arith)) (pair-true i j k h))
