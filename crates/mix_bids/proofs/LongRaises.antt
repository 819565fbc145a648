-- A bid whose best set lies in a set of goods loses one at each step along it, until it finds a choice outside the set as good.
use Rattle.std.proofs.Common.{◌≡◌, ℕ, zero, suc, ◌+◌, ◌≤◌, ◌<◌, Bool, true, false, not, cond, List, [], ◌∷◌, ℤ, pos, ◌+ℤ◌, ◌-ℤ◌, ◌*ℤ◌, ◌≤ℤ◌, refl, arith, sym, ap, ◌∙◌, drop, drop-cons, drop_of_length-le, add-one, Option, Some, None, get_or, length}
use Rattle.std.proofs.lemmas.Int.{ints, clamps}
use Rattle.std.proofs.lemmas.Bool.{false≢true}
use Rattle.std.proofs.Math.IntN.{*ℤ_comm}
use Rattle.std.specs.Int.{int_min}
use Rattle.mix_num.specs.Vectors.{Vector, Choices, outside, plus, ray}
use Rattle.mix_num.proofs.Products.{*ℤ-sum, *ℤ-difference}
use Rattle.mix_bids.specs.Offers.{Offers, offer, gain, best, within}
use Rattle.mix_bids.specs.Bids.{utility, weight_within}
use Rattle.mix_bids.specs.Reaches.{gain_in, gap, offers_in, reach_of}
use Rattle.mix_bids.specs.declared.bid.Bid.{Bid}
use Rattle.mix_bids.proofs.Cases.{by_test}
use Rattle.mix_bids.proofs.Sets.{within-true, within-false}
use Rattle.mix_bids.proofs.Lengths.{AreOver, first_over, rest_over}
use Rattle.mix_bids.proofs.Gains.{IsGain, gain_is, gain_one, offered_within}
use Rattle.mix_bids.proofs.BestChoices.{leaves_offer, leaves-true, some_best}
use Rattle.mix_bids.proofs.Weights.{utility_falls}

-- whether a choice counts among the gains in a set: the null choice does always
abbrev pub counts : Choices → Choices
counts s zero = true
counts s (suc k) = s (suc k)

at_place : (s : Choices) (vs : Offers) (k : ℕ) → get_or (offers_in s vs) k None ≡ cond (s (suc k)) (get_or vs k None) None
at_place s [] k = none (s (suc k))
  where
    none : (b : Bool) → get_or (offers_in s []) k None ≡ cond b (get_or [] k None) None
    none true = refl
    none false = refl
at_place s (o ∷ vs) zero = refl
at_place s (o ∷ vs) (suc k) = at_place (λ j. s (suc j)) vs k

-- what is offered for a choice that counts, and for one that doesn't
pub offered_in : (s : Choices) (vs : Offers) (k : ℕ) → counts s k ≡ true → offer (offers_in s vs) k ≡ offer vs k
offered_in s vs zero h = refl
offered_in s vs (suc k) h = at_place s vs k ∙ ap (λ (b : Bool). cond b (get_or vs k None) None) h

pub offered_there : (s : Choices) (vs : Offers) (k : ℕ) (v : ℤ) → offer (offers_in s vs) k ≡ Some v → (counts s k ≡ true) × (offer vs k ≡ Some v)
offered_there s vs zero v e = (refl, e)
offered_there s vs (suc k) v e = at (s (suc k)) (get_or vs k None) refl (sym (at_place s vs k) ∙ e)
  where
    at : (b : Bool) (o : Option ℤ) → s (suc k) ≡ b → cond b o None ≡ Some v → (s (suc k) ≡ true) × (o ≡ Some v)
    at true o q f = (q, f)
    at false o q f = absurd (cc)

-- no gain in a set is above the gain
gain_in-most : (s : Choices) (vs : Offers) (x : Vector) → gain_in s vs x ≤ℤ gain vs x
gain_in-most s vs x =
    let r = gain_is (offers_in s vs) x in
    let h = (gain_is vs x).upper r.place r.value (offered_there s vs r.place r.value r.offered).1 in
    let e = r.reached in
    omega (arith, ints)

-- where a best choice counts, it is the gain
gain_in-best : (s : Choices) (vs : Offers) (x : Vector) (k : ℕ) → best vs x k ≡ true → counts s k ≡ true → gain_in s vs x ≡ gain vs x
gain_in-best s vs x k b i =
    let r = leaves-true (offer vs k) (x k) (gain vs x) b in
    let h = (gain_is (offers_in s vs) x).upper k r.value (offered_in s vs k i ∙ r.offered) in
    let m = gain_in-most s vs x in
    let e = r.leaves in
    omega (arith, ints)

-- the set has no null choice: a choice in it counts there, and one outside it counts outside
module _ (n : ℕ) (vs : Offers) (x : Vector) (s : Choices) (l : length vs ≤ n) (null : s 0 ≡ false) where
  counts_in : (k : ℕ) → s k ≡ true → counts s k ≡ true
  counts_in zero h = refl
  counts_in (suc k) h = h

  counts_outside : (k : ℕ) → s k ≡ false → counts (outside s) k ≡ true
  counts_outside zero h = refl
  counts_outside (suc k) h = ap not h

  is_outside : (k : ℕ) → counts (outside s) k ≡ true → s k ≡ false
  is_outside zero h = null
  is_outside (suc k) h = at (s (suc k)) h
    where
      at : (b : Bool) → not b ≡ true → b ≡ false
      at true e = sym e
      at false e = refl

  -- a bid whose best set lies in the set gains the most in it, and less outside it
  pub gap_some : within (suc n) (best vs x) s ≡ true → (gain_in s vs x ≡ gain vs x) × (pos 1 ≤ℤ gap s vs x)
  gap_some h =
      let inside = λ (k : ℕ) (q : k ≤ length vs) (b : best vs x k ≡ true). within-true (suc n) (best vs x) s h k (omega arith) b in
      let b = some_best vs x in
      let g = gain_in-best s vs x b.0 b.2 (counts_in b.0 (inside b.0 b.1 b.2)) in
      let o = gain_is (offers_in (outside s) vs) x in
      let there = offered_there (outside s) vs o.place o.value o.offered in
      let most = gain_in-most (outside s) vs x in
      let such = o.reached in
      let differs : gain_in (outside s) vs x ≡ gain vs x → ⊥ = λ e. false≢true (sym (is_outside o.place there.0) ∙ inside o.place (offered_within vs o.place o.value there.1) (leaves_offer (offer vs o.place) (x o.place) (gain vs x) o.value there.1 (such ∙ e))) in
      (g, omega (arith, ints))

  -- any other bid gains as much outside it
  pub gap_none : within (suc n) (best vs x) s ≡ false → gap s vs x ≤ℤ pos 0
  gap_none h =
      let f = within-false (suc n) (best vs x) s h in
      let g = gain_in-best (outside s) vs x f.0 f.2 (counts_outside f.0 f.3) in
      let m = gain_in-most s vs x in
      omega (arith, ints)

  -- so the gap tells whether the best set lies in the set
  pub steps_some : pos 1 ≤ℤ gap s vs x → gap s vs x ≡ cond (within (suc n) (best vs x) s) (gap s vs x) (pos 8000000)
  steps_some h = by_test (within (suc n) (best vs x) s)
      (λ t. ap (λ (z : Bool). cond z (gap s vs x) (pos 8000000)) (sym t))
      (λ t. let g = gap_none t in absurd (omega (arith, ints)))

  pub steps_none : gap s vs x ≤ℤ pos 0 → pos 8000000 ≡ cond (within (suc n) (best vs x) s) (gap s vs x) (pos 8000000)
  steps_none h = by_test (within (suc n) (best vs x) s)
      (λ t. let g = (gap_some t).1 in absurd (omega (arith, ints)))
      (λ t. ap (λ (z : Bool). cond z (gap s vs x) (pos 8000000)) (sym t))

  raised_in : (v c g o : ℤ) (m : ℕ) (b : Bool) → (v -ℤ c) ≤ℤ g → (b ≡ false → (v -ℤ c) ≤ℤ o) → pos m ≤ℤ (g -ℤ o) → (v -ℤ (c +ℤ cond b (pos m) (pos 0))) ≤ℤ (g -ℤ pos m)
  raised_in v c g o m true h out few = omega (arith, ints)
  raised_in v c g o m false h out few = let u = out refl in omega (arith, ints)

  raised_out : (v c g : ℤ) (m : ℕ) (b : Bool) → (v -ℤ c) ≤ℤ g → (v -ℤ (c +ℤ cond b (pos m) (pos 0))) ≤ℤ g
  raised_out v c g m true h = omega (arith, ints)
  raised_out v c g m false h = omega (arith, ints)

  -- up to the gap it loses one at each step
  gain_long : (m : ℕ) → within (suc n) (best vs x) s ≡ true → pos m ≤ℤ gap s vs x → IsGain vs (ray x m s) (gain vs x -ℤ pos m)
  gain_long m h few =
      let r = gain_is vs x in
      let o = gain_is (offers_in (outside s) vs) x in
      let g = (gap_some h).0 in
      let small : pos m ≤ℤ (gain vs x -ℤ gain_in (outside s) vs x) = omega (arith, ints) in
      record {
        upper = λ k v e. raised_in v (x k) (gain vs x) (gain_in (outside s) vs x) m (s k) (r.upper k v e) (λ q. o.upper k v (offered_in (outside s) vs k (counts_outside k q) ∙ e)) small;
        place = r.place;
        value = r.value;
        offered = r.offered;
        reached =
            let a = within-true (suc n) (best vs x) s h r.place (omega (arith, offered_within vs r.place r.value r.offered)) (leaves_offer (offer vs r.place) (x r.place) (gain vs x) r.value r.offered r.reached) in
            let b = ap (λ (z : Bool). cond z (pos m) (pos 0)) a in
            let e = r.reached in
            omega (arith, ints);
      }

  -- another bid loses nothing
  gain_still : (m : ℕ) → within (suc n) (best vs x) s ≡ false → IsGain vs (ray x m s) (gain vs x)
  gain_still m h =
      let r = gain_is vs x in
      let f = within-false (suc n) (best vs x) s h in
      let b = leaves-true (offer vs f.0) (x f.0) (gain vs x) f.2 in
      record {
        upper = λ k v o. raised_out v (x k) (gain vs x) m (s k) (r.upper k v o);
        place = f.0;
        value = b.value;
        offered = b.offered;
        reached = let a = ap (λ (z : Bool). cond z (pos m) (pos 0)) f.3 in let e = b.leaves in omega (arith, ints);
      }

  gain_steps : (m : ℕ) → pos m ≤ℤ cond (within (suc n) (best vs x) s) (gap s vs x) (pos 8000000) → gain vs (ray x m s) ≡ gain vs x -ℤ cond (within (suc n) (best vs x) s) (pos m) (pos 0)
  gain_steps m few = by_test (within (suc n) (best vs x) s)
      (λ h. let a = gain_one vs (ray x m s) _ _ (gain_is vs (ray x m s)) (gain_long m h (let u = ap (λ (z : Bool). cond z (gap s vs x) (pos 8000000)) h in omega (arith, ints))) in let b = ap (λ (z : Bool). cond z (pos m) (pos 0)) h in omega (arith, ints))
      (λ h. let a = gain_one vs (ray x m s) _ _ (gain_is vs (ray x m s)) (gain_still m h) in let b = ap (λ (z : Bool). cond z (pos m) (pos 0)) h in omega (arith, ints))

-- so up to the reach a list's utility falls at each step by the weight of the bids whose best set lies in the set
utility_steps : (n : ℕ) (bs : List Bid) (x : Vector) (s : Choices) (m : ℕ) → AreOver n bs → s 0 ≡ false → pos m ≤ℤ reach_of n s bs x → utility bs (ray x m s) ≡ utility bs x -ℤ (pos m *ℤ weight_within n s bs x)
utility_steps n [] x s m o null h = let z : pos m *ℤ pos 0 ≡ pos 0 = omega (arith, ints) in omega (arith, ints)
utility_steps n (b ∷ bs) x s m o null h =
    let t = within (suc n) (best b.values.items x) s in
    let own = gain_steps n b.values.items x s (omega (arith, first_over n b bs o)) null m (omega (arith, ints, clamps)) in
    let rest = utility_steps n bs x s m (rest_over n b bs o) null (omega (arith, ints, clamps)) in
    let a = ap (λ (v : ℤ). b.weight *ℤ v) own in
    let d = *ℤ-difference b.weight (gain b.values.items x) (cond t (pos m) (pos 0)) in
    let e = *ℤ-sum (pos m) (cond t b.weight (pos 0)) (weight_within n s bs x) in
    let f = turned t b.weight in
    omega (arith, ints)
  where
    turned : (t : Bool) (w : ℤ) → w *ℤ cond t (pos m) (pos 0) ≡ pos m *ℤ cond t w (pos 0)
    turned true w = *ℤ_comm w (pos m)
    turned false w = let a : w *ℤ pos 0 ≡ pos 0 = omega (arith, ints) in let b : pos m *ℤ pos 0 ≡ pos 0 = omega (arith, ints) in omega (arith, ints)

pub utility_linear : (n : ℕ) (bs : List Bid) (x : Vector) (s : Choices) (m : ℕ) → AreOver n bs → s 0 ≡ false → pos m ≤ℤ reach_of n s bs x → utility bs (ray x m s) ≡ utility bs x -ℤ (pos m *ℤ (utility bs x -ℤ utility bs (plus x s)))
utility_linear n bs x s m o null h =
    let a = utility_steps n bs x s m o null h in
    let b = utility_falls n bs x s o in
    let fall : weight_within n s bs x ≡ utility bs x -ℤ utility bs (plus x s) = omega (arith, ints) in
    let c = ap (λ (v : ℤ). pos m *ℤ v) fall in
    omega (arith, ints)

-- one turn over the bids, its start and its end
pub reach_step : (n : ℕ) (s : Choices) (bs : List Bid) (x : Vector) (k : ℕ) (b : Bid) (least v t total : ℤ) → k < length bs → b ≡ get_or bs k b → v ≡ cond (within (suc n) (best b.values.items x) s) (gap s b.values.items x) (pos 8000000) → t ≡ int_min least v
    → int_min least (reach_of n s (drop k bs) x) ≡ total → int_min t (reach_of n s (drop (k + 1) bs) x) ≡ total
reach_step n s bs x k b least v t total l q e f all =
    let u : reach_of n s (drop k bs) x ≡ reach_of n s (get_or bs k b ∷ drop (suc k) bs) x = ap (λ (z : List Bid). reach_of n s z x) (drop-cons bs k b l) in
    let w = ap (λ (z : Bid). cond (within (suc n) (best z.values.items x) s) (gap s z.values.items x) (pos 8000000)) q in
    let y = ap (λ z. reach_of n s (drop z bs) x) (add-one k) in
    omega (arith, ints, clamps)

pub reach_start : (n : ℕ) (s : Choices) (bs : List Bid) (x : Vector) → int_min (pos 8000000) (reach_of n s bs x) ≡ reach_of n s bs x
reach_start n s [] x = refl
reach_start n s (b ∷ bs) x = let h = reach_start n s bs x in omega (arith, ints, clamps)

pub reach_end : (n : ℕ) (s : Choices) (bs : List Bid) (x : Vector) (k : ℕ) (least total : ℤ) → length bs ≤ k → least ≤ℤ pos 8000000 → int_min least (reach_of n s (drop k bs) x) ≡ total → least ≡ total
reach_end n s bs x k least total l h all = let e = ap (λ (z : List Bid). reach_of n s z x) (drop_of_length-le bs l) in omega (arith, ints, clamps)
