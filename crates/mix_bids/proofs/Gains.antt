-- The gain is the one number that no choice passes and that some choice reaches.
use Rattle.std.proofs.Common.{◌≡◌, ℕ, zero, suc, ◌≤◌, ◌<◌, ◌⊎◌, inl, inr, ⊎_elim, [], ◌∷◌, ℤ, pos, ◌-ℤ◌, ◌≤ℤ◌, refl, arith, sym, ◌∙◌, Some, None, get_or, length}
use Rattle.std.proofs.lemmas.Int.{ints, clamps}
use Rattle.std.specs.Int.{int_max}
use Rattle.mix_num.specs.Vectors.{Vector, shifted, Agree}
use Rattle.mix_bids.specs.Offers.{Offers, offer, later, gain_from, gain}

-- g is the greatest of what the choices leave: none leaves more, and one leaves just as much
pub record IsGain (vs : Offers) (x : Vector) (g : ℤ) : Type 0 where
  pub upper : (k : ℕ) (v : ℤ) → offer vs k ≡ Some v → (v -ℤ x k) ≤ℤ g
  pub place : ℕ
  pub value : ℤ
  pub offered : offer vs place ≡ Some value
  pub reached : value -ℤ x place ≡ g

at_least : (vs : Offers) (x : Vector) (g : ℤ) → g ≤ℤ gain_from vs x g
at_least [] x g = omega (arith, ints)
at_least (None ∷ vs) x g = at_least vs (later x) g
at_least (Some v ∷ vs) x g = let h = at_least vs (later x) g in omega (arith, ints, clamps)

upper_from : (vs : Offers) (x : Vector) (g : ℤ) (k : ℕ) (v : ℤ) → get_or vs k None ≡ Some v → (v -ℤ x k) ≤ℤ gain_from vs x g
upper_from [] x g k v e = absurd (cc)
upper_from (None ∷ vs) x g zero v e = absurd (cc)
upper_from (None ∷ vs) x g (suc k) v e = upper_from vs (later x) g k v e
upper_from (Some u ∷ vs) x g zero v e = let q : u ≡ v = cc in omega (arith, ints, clamps)
upper_from (Some u ∷ vs) x g (suc k) v e = let h = upper_from vs (later x) g k v e in omega (arith, ints, clamps)

-- where a number is reached
record Reached (vs : Offers) (x : Vector) (r : ℤ) : Type 0 where
  pub place : ℕ
  pub value : ℤ
  pub offered : get_or vs place None ≡ Some value
  pub reached : value -ℤ x place ≡ r

max_cases : (a b : ℤ) → (int_max a b ≡ a) ⊎ (int_max a b ≡ b)
max_cases a b = grind (arith, ints)

reached_from : (vs : Offers) (x : Vector) (g : ℤ) → (gain_from vs x g ≡ g) ⊎ Reached vs x (gain_from vs x g)
reached_from [] x g = inl refl
reached_from (None ∷ vs) x g = ⊎_elim (λ e. inl e) (λ r. inr (record { place = suc r.place; value = r.value; offered = r.offered; reached = r.reached })) (reached_from vs (later x) g)
reached_from (Some v ∷ vs) x g =
    ⊎_elim
    (λ a. ⊎_elim (λ e. inl (a ∙ e)) (λ r. inr (record { place = suc r.place; value = r.value; offered = r.offered; reached = r.reached ∙ sym a })) (reached_from vs (later x) g))
    (λ b. inr (record { place = 0; value = v; offered = refl; reached = sym b }))
    (max_cases (gain_from vs (later x) g) (v -ℤ x 0))

gain_upper : (vs : Offers) (x : Vector) (k : ℕ) (v : ℤ) → offer vs k ≡ Some v → (v -ℤ x k) ≤ℤ gain vs x
gain_upper vs x zero v e = let q : pos 0 ≡ v = cc in let h = at_least vs (later x) (pos 0 -ℤ x 0) in omega (arith, ints)
gain_upper vs x (suc k) v e = upper_from vs (later x) (pos 0 -ℤ x 0) k v e

pub gain_is : (vs : Offers) (x : Vector) → IsGain vs x (gain vs x)
gain_is vs x =
    ⊎_elim (λ e. record { upper = gain_upper vs x; place = 0; value = pos 0; offered = refl; reached = sym e })
    (λ r. record { upper = gain_upper vs x; place = suc r.place; value = r.value; offered = r.offered; reached = r.reached })
    (reached_from vs (later x) (pos 0 -ℤ x 0))

-- there is only one
pub gain_one : (vs : Offers) (x : Vector) (g h : ℤ) → IsGain vs x g → IsGain vs x h → g ≡ h
gain_one vs x g h a b =
    let p = a.upper b.place b.value b.offered in
    let q = b.upper a.place a.value a.offered in
    let r = a.reached in
    let s = b.reached in
    omega (arith, ints)

offered_below : (vs : Offers) (k : ℕ) (v : ℤ) → get_or vs k None ≡ Some v → k < length vs
offered_below [] k v e = absurd (cc)
offered_below (o ∷ vs) zero v e = omega arith
offered_below (o ∷ vs) (suc k) v e = let h = offered_below vs k v e in omega arith

-- only the null choice and the goods of the list are offered
pub offered_within : (vs : Offers) (k : ℕ) (v : ℤ) → offer vs k ≡ Some v → k ≤ length vs
offered_within vs k v e = let h = offered_below (Some (pos 0) ∷ vs) k v e in omega arith

shifted_gain : (vs : Offers) (x : Vector) (k : ℤ) → IsGain vs (shifted x k) (gain vs x -ℤ k)
shifted_gain vs x k =
    let r = gain_is vs x in
    record {
      upper = λ i v o. let h = r.upper i v o in omega (arith, ints);
      place = r.place;
      value = r.value;
      offered = r.offered;
      reached = let e = r.reached in omega (arith, ints);
    }

-- where every price rises by k the gain falls by k
pub gain_shifted : (vs : Offers) (x : Vector) (k : ℤ) → gain vs (shifted x k) ≡ gain vs x -ℤ k
gain_shifted vs x k = gain_one vs (shifted x k) _ _ (gain_is vs (shifted x k)) (shifted_gain vs x k)

read_gain : (n : ℕ) (vs : Offers) (x y : Vector) → length vs ≤ n → Agree n x y → IsGain vs y (gain vs x)
read_gain n vs x y l a =
    let r = gain_is vs x in
    record {
      upper = λ i v o. let h = r.upper i v o in let e = a i (omega (arith, offered_within vs i v o)) in omega (arith, ints);
      place = r.place;
      value = r.value;
      offered = r.offered;
      reached = let h = r.reached in let e = a r.place (omega (arith, offered_within vs r.place r.value r.offered)) in omega (arith, ints);
    }

-- the gain reads the prices of its choices alone
pub gain_reads : (n : ℕ) (vs : Offers) (x y : Vector) → length vs ≤ n → Agree n x y → gain vs x ≡ gain vs y
gain_reads n vs x y l a = gain_one vs y _ _ (read_gain n vs x y l a) (gain_is vs y)
