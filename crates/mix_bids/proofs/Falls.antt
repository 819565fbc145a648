-- A step of the prices of a set changes a gain by one or by nothing, as the best set lies in the set or meets it.
use Rattle.std.proofs.Common.{◌≡◌, ℕ, suc, ◌≤◌, Bool, true, false, not, ℤ, pos, negsuc, ◌+ℤ◌, ◌-ℤ◌, ◌≤ℤ◌, refl, arith, ap, ◌∙◌, Some, length}
use Rattle.std.proofs.lemmas.Int.{ints}
use Rattle.std.proofs.lemmas.Bool.{false≢true}
use mathlib.Core.Path.{fun_ext}
use Rattle.mix_num.specs.Vectors.{Vector, Choices, bit, plus, minus, outside, shifted}
use Rattle.mix_bids.specs.Offers.{Offers, offer, gain, best, within, meets}
use Rattle.mix_bids.proofs.Cases.{by_test}
use Rattle.mix_bids.proofs.Sets.{within-true, within-false}
use Rattle.mix_bids.proofs.Gains.{IsGain, gain_is, gain_one, gain_shifted, offered_within}
use Rattle.mix_bids.proofs.BestChoices.{leaves_offer, leaves_not, leaves-true}

lowered_at : (v c g : ℤ) (b s : Bool) → (v -ℤ c) ≤ℤ g → (b ≡ false → v -ℤ c ≡ g → ⊥) → (b ≡ true → s ≡ true) → (v -ℤ (c +ℤ bit s)) ≤ℤ (g -ℤ pos 1)
lowered_at v c g b true h f e = omega (arith, ints)
lowered_at v c g true false h f e = absurd (false≢true (e refl))
lowered_at v c g false false h f e = let q : v -ℤ c ≡ g → ⊥ = f refl in omega (arith, ints)

kept_at : (v c g : ℤ) (s : Bool) → (v -ℤ c) ≤ℤ g → (v -ℤ (c +ℤ bit s)) ≤ℤ g
kept_at v c g true h = omega (arith, ints)
kept_at v c g false h = omega (arith, ints)

gain_lower : (n : ℕ) (vs : Offers) (x : Vector) (s : Choices) → length vs ≤ n → within (suc n) (best vs x) s ≡ true → IsGain vs (plus x s) (gain vs x -ℤ pos 1)
gain_lower n vs x s l h =
    let r = gain_is vs x in
    let inside = λ (k : ℕ) (v : ℤ) (o : offer vs k ≡ Some v). within-true (suc n) (best vs x) s h k (omega (arith, offered_within vs k v o)) in
    record {
      upper = λ k v o. lowered_at v (x k) (gain vs x) (best vs x k) (s k) (r.upper k v o) (leaves_not (offer vs k) (x k) (gain vs x) v o) (inside k v o);
      place = r.place;
      value = r.value;
      offered = r.offered;
      reached =
          let a = inside r.place r.value r.offered (leaves_offer (offer vs r.place) (x r.place) (gain vs x) r.value r.offered r.reached) in
          let b = ap bit a in
          let e = r.reached in
          omega (arith, ints);
    }

gain_same : (n : ℕ) (vs : Offers) (x : Vector) (s : Choices) → within (suc n) (best vs x) s ≡ false → IsGain vs (plus x s) (gain vs x)
gain_same n vs x s h =
    let r = gain_is vs x in
    let f = within-false (suc n) (best vs x) s h in
    let b = leaves-true (offer vs f.0) (x f.0) (gain vs x) f.2 in
    record {
      upper = λ k v o. kept_at v (x k) (gain vs x) (s k) (r.upper k v o);
      place = f.0;
      value = b.value;
      offered = b.offered;
      reached = let a = ap bit f.3 in let e = b.leaves in omega (arith, ints);
    }

-- where the prices of a set rise by one, the gain falls by one exactly if the best set lies in the set
pub gain_falls : (n : ℕ) (vs : Offers) (x : Vector) (s : Choices) → length vs ≤ n → gain vs x ≡ gain vs (plus x s) +ℤ bit (within (suc n) (best vs x) s)
gain_falls n vs x s l = by_test (within (suc n) (best vs x) s)
    (λ h. let a = gain_one vs (plus x s) _ _ (gain_is vs (plus x s)) (gain_lower n vs x s l h) in let b = ap bit h in omega (arith, ints))
    (λ h. let a = gain_one vs (plus x s) _ _ (gain_is vs (plus x s)) (gain_same n vs x s h) in let b = ap bit h in omega (arith, ints))

-- a set lowered is everything lowered and the other choices raised
lowered : (x : Vector) (s : Choices) → minus x s ≡ shifted (plus x (outside s)) (negsuc 0)
lowered x s = fun_ext (λ k. at (x k) (s k))
  where
    at : (a : ℤ) (b : Bool) → a -ℤ bit b ≡ (a +ℤ bit (not b)) +ℤ negsuc 0
    at a true = omega (arith, ints)
    at a false = omega (arith, ints)

-- where the prices of a set fall by one, the gain rises by one exactly if the best set meets the set
pub gain_rises : (n : ℕ) (vs : Offers) (x : Vector) (s : Choices) → length vs ≤ n → gain vs (minus x s) ≡ gain vs x +ℤ bit (meets (suc n) (best vs x) s)
gain_rises n vs x s l =
    let e = ap (gain vs) (lowered x s) ∙ gain_shifted vs (plus x (outside s)) (negsuc 0) in
    let f = gain_falls n vs x (outside s) l in
    let o = other (within (suc n) (best vs x) (outside s)) in
    omega (arith, ints)
  where
    other : (b : Bool) → bit (not b) ≡ pos 1 -ℤ bit b
    other true = refl
    other false = refl
