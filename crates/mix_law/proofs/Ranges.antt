-- How large a member's numbers are: the function falls where an entry rises, and what it falls or rises by lies from 0 to the total.
use Rattle.std.proofs.Common.{◌≡◌, ℕ, zero, suc, ◌≤◌, ◌<◌, Bool, true, false, cond, not, eqb, List, [], ◌∷◌, ℤ, pos, negsuc, ◌+ℤ◌, ◌-ℤ◌, ◌*ℤ◌, ◌≤ℤ◌, refl, arith, ap, sym, subst, ◌⊎◌, inl, inr, eq-or-lt_of_le}
use Rattle.std.proofs.lemmas.Int.{ints, clamps}
use Rattle.std.proofs.lemmas.Bool.{false≢true}
use Rattle.std.proofs.lemmas.Bool.Decides.{nat_tests}
use Rattle.std.proofs.lemmas.List.Elements.{All-get_or}
use Rattle.std.proofs.Math.IntN.{*ℤ_comm, zero-*ℤ}
use Rattle.mix_num.specs.Vectors.{Vector, Choices, bit, plus, minus, only, outside, ray, shifted, with_null}
use Rattle.mix_num.specs.Ranges.{Lies, HaveRoom}
use Rattle.mix_num.proofs.Products.{*ℤ-sum, product_grows, sum-*ℤ, difference-*ℤ}
use Rattle.mix_law.specs.Members.{IsLNatural, keeps_local, excess, fall_of, rho}
use Rattle.mix_law.specs.Totals.{total_nonnegative}
use Rattle.mix_law.proofs.Lattice.{apart, more, over, over_is, along, Each, spread, Each-spread, along-spread}
use Rattle.mix_law.proofs.Midpoint.{slopes_rise}

-- the price of a good is one of the list
pub good_price : (n : ℕ) (p : List ℤ) → HaveRoom n p → (i : ℕ) → 1 ≤ i → i ≤ n → Lies 3999999 (with_null p i)
good_price n p h zero l m = absurd (omega arith)
good_price n p h (suc i) l m = All-get_or (Lies 3999999) _ _ _ (omega (arith, h.0)) h.1

-- the excess is at most what no top leaves more than
pub excess_bound : (n : ℕ) (top : ℕ → ℤ) (x : Vector) (b : ℤ) → pos 0 ≤ℤ b → ((i : ℕ) → 1 ≤ i → i ≤ n → (top i -ℤ x i) ≤ℤ b) → excess n top x ≤ℤ b
excess_bound zero top x b p h = p
excess_bound (suc n) top x b p h =
    let r = excess_bound n top x b p (λ i l m. h i l (omega arith)) in
    let q = h (suc n) (omega arith) (omega arith) in
    omega (arith, ints, clamps)

pub excess_nonnegative : (n : ℕ) (top : ℕ → ℤ) (x : Vector) → pos 0 ≤ℤ excess n top x
excess_nonnegative zero top x = omega (arith, ints)
excess_nonnegative (suc n) top x = let r = excess_nonnegative n top x in omega (arith, ints, clamps)

-- no top leaves more than the excess
pub excess_covers : (n : ℕ) (top : ℕ → ℤ) (x : Vector) (i : ℕ) → 1 ≤ i → i ≤ n → (top i -ℤ x i) ≤ℤ excess n top x
excess_covers zero top x i l h = absurd (omega arith)
excess_covers (suc n) top x i l h = step (eq-or-lt_of_le h) (λ m. excess_covers n top x i l (omega arith))
  where
    step : (i ≡ suc n) ⊎ (i < suc n) → (i < suc n → (top i -ℤ x i) ≤ℤ excess n top x) → (top i -ℤ x i) ≤ℤ excess (suc n) top x
    step (inl e) f =
        let P : ℕ → Type 0 = λ k. (top k -ℤ x k) ≤ℤ excess (suc n) top x in
        let last : (top (suc n) -ℤ x (suc n)) ≤ℤ excess (suc n) top x = omega (arith, ints, clamps) in
        subst P (sym e) last
    step (inr m) f = let r = f m in omega (arith, ints, clamps)

-- lower entries of the goods, by m at most, give an excess that is greater by m at most
pub excess_lowered : (n : ℕ) (top : ℕ → ℤ) (x y : Vector) (m : ℤ) → pos 0 ≤ℤ m → ((i : ℕ) → 1 ≤ i → i ≤ n → (x i -ℤ m) ≤ℤ y i) → excess n top y ≤ℤ (excess n top x +ℤ m)
excess_lowered zero top x y m p h = omega (arith, ints)
excess_lowered (suc n) top x y m p h =
    let r = excess_lowered n top x y m p (λ i l k. h i l (omega arith)) in
    let q = h (suc n) (omega arith) (omega arith) in
    omega (arith, ints, clamps)

-- a number whose multiples stay below a bound isn't positive
bounded_multiples : (d b : ℤ) → ((k : ℕ) → (pos k *ℤ d) ≤ℤ b) → d ≤ℤ pos 0
bounded_multiples (pos zero) b h = omega (arith, ints)
bounded_multiples (pos (suc e)) b h =
    let k = suc (over b) in
    let r = h k in
    let o = over_is b in
    let g = product_grows (pos k) (pos 1) (pos (suc e)) (omega (arith, ints)) (omega (arith, ints)) in
    absurd (omega (arith, ints, clamps))
bounded_multiples (negsuc e) b h = omega (arith, ints)

-- entries of vectors that are raised at one good and at the null choice
unit_at : (a : ℤ) (b : Bool) → a +ℤ pos (cond b 1 0) ≡ a +ℤ bit b
unit_at a true = omega (arith, ints)
unit_at a false = omega (arith, ints)

null_at : (a : ℤ) (m : ℕ) (b : Bool) → (a -ℤ cond b (pos m) (pos 0)) +ℤ pos (cond b m 0) ≡ a
null_at a m true = omega (arith, ints)
null_at a m false = omega (arith, ints)

other_at : (i : ℕ) (m : ℤ) → 1 ≤ i → cond (eqb i 0) m (pos 0) ≡ pos 0
other_at i m h = grind (arith, nat_tests)

apart_at : (i k m : ℕ) → 1 ≤ i → 0 < cond (eqb k i) 1 0 → 0 < cond (eqb k 0) m 0 → ⊥
apart_at i k m h p q = grind (arith, nat_tests)

-- raised by one at the members, then at the others
one_each : (a : ℤ) (b : Bool) → a +ℤ pos 1 ≡ (a +ℤ bit b) +ℤ bit (not b)
one_each a true = omega (arith, ints)
one_each a false = omega (arith, ints)

at_least : (a : ℤ) (b : Bool) → a ≤ℤ (a +ℤ bit b)
at_least a true = omega (arith, ints)
at_least a false = omega (arith, ints)

module _ {n : ℕ} {f : Vector → ℤ} {w : ℤ} {top : ℕ → ℤ} (some : 1 ≤ n) (c : IsLNatural n f w top) where
  -- a good's price that rises never makes the function rise: it falls least where the null choice's price is low, and there not at all
  good_falls : (x : Vector) (i : ℕ) → 1 ≤ i → i ≤ n → f (plus x (only i)) ≤ℤ f x
  good_falls x i l h =
      let m = over (top i -ℤ (x i -ℤ x 0)) in
      let y : Vector = λ k. x k -ℤ cond (eqb k 0) (pos m) (pos 0) in
      let u : ℕ → ℕ = λ k. cond (eqb k i) 1 0 in
      let v : ℕ → ℕ = λ k. cond (eqb k 0) m 0 in
      let o = other_at i (pos m) l in
      let e = over_is (top i -ℤ (x i -ℤ x 0)) in
      let a = c.far y i l h (omega (arith, ints, clamps)) in
      let b = apart (keeps_local c) y u v (λ k _. apart_at i k m l) in
      let p = c.reads (more y u) (plus y (only i)) (λ k _. unit_at (y k) (eqb k i)) in
      let q = c.reads (more y v) x (λ k _. null_at (x k) m (eqb k 0)) in
      let r = c.reads (more (more y u) v) (plus x (only i)) (λ k _. let s = null_at (x k) m (eqb k 0) in let t = unit_at (x k) (eqb k i) in omega (arith, ints)) in
      omega (arith, ints)

  -- along the null choice the function stays below a bound
  null_bound : (x : Vector) (m : ℕ) → f (ray x m (only 0)) ≤ℤ ((w *ℤ excess n top (shifted x (pos 0 -ℤ x 0))) -ℤ (x 0 *ℤ w))
  null_bound x m =
      let k = pos 0 -ℤ (x 0 +ℤ pos m) in
      let y = shifted (ray x m (only 0)) k in
      let base = shifted x (pos 0 -ℤ x 0) in
      let zero_at : y 0 ≡ pos 0 = omega (arith, ints) in
      let s = c.size y zero_at in
      let e = excess_lowered n top base y (pos m) (omega (arith, ints)) (λ i l h. let o = other_at i (pos m) l in omega (arith, ints)) in
      let g = product_grows w (excess n top y) (excess n top base +ℤ pos m) (total_nonnegative some c) e in
      let d = *ℤ-sum w (excess n top base) (pos m) in
      let r = c.shift (ray x m (only 0)) k in
      let p = difference-*ℤ (pos 0) (x 0 +ℤ pos m) w in
      let q = sum-*ℤ (x 0) (pos m) w in
      let t = *ℤ_comm (pos m) w in
      omega (arith, ints, s.0, s.1)

  -- along the null choice the first slope is the least
  null_slopes : (x : Vector) (k : ℕ) → (f (ray x 1 (only 0)) -ℤ f (ray x 0 (only 0))) ≤ℤ (f (ray x (suc k) (only 0)) -ℤ f (ray x k (only 0)))
  null_slopes x zero = omega (arith, ints)
  null_slopes x (suc k) = let h = null_slopes x k in let r = slopes_rise (keeps_local c) x (only 0) k in omega (arith, ints)

  null_along : (x : Vector) (k : ℕ) → (pos k *ℤ (f (ray x 1 (only 0)) -ℤ f (ray x 0 (only 0)))) ≤ℤ (f (ray x k (only 0)) -ℤ f (ray x 0 (only 0)))
  null_along x zero = let e = zero-*ℤ (f (ray x 1 (only 0)) -ℤ f (ray x 0 (only 0))) in omega (arith, ints)
  null_along x (suc k) =
      let d = f (ray x 1 (only 0)) -ℤ f (ray x 0 (only 0)) in
      let h = null_along x k in
      let r = null_slopes x k in
      let e = sum-*ℤ (pos k) (pos 1) d in
      let i : pos (suc k) ≡ pos k +ℤ pos 1 = omega (arith, ints) in
      let j = ap (λ z. z *ℤ d) i in
      omega (arith, ints)

  null_falls : (x : Vector) → f (plus x (only 0)) ≤ℤ f x
  null_falls x =
      let d = f (ray x 1 (only 0)) -ℤ f (ray x 0 (only 0)) in
      let b = ((w *ℤ excess n top (shifted x (pos 0 -ℤ x 0))) -ℤ (x 0 *ℤ w)) -ℤ f (ray x 0 (only 0)) in
      let h : d ≤ℤ pos 0 = bounded_multiples d b (λ k. let r = null_along x k in let q = null_bound x k in omega (arith, ints)) in
      let p = c.reads (ray x 1 (only 0)) (plus x (only 0)) (λ k _. refl) in
      let q = c.reads (ray x 0 (only 0)) x (λ k _. zero_ray (x k) (eqb k 0)) in
      omega (arith, ints)
    where
      zero_ray : (a : ℤ) (b : Bool) → a +ℤ cond b (pos 0) (pos 0) ≡ a
      zero_ray a true = omega (arith, ints)
      zero_ray a false = omega (arith, ints)

  pub choice_falls : (x : Vector) (i : ℕ) → i ≤ n → f (plus x (only i)) ≤ℤ f x
  choice_falls x zero h = null_falls x
  choice_falls x (suc i) h = good_falls x (suc i) (omega arith) h

  falls_along : (x : Vector) (l : List ℕ) → Each (λ i. i ≤ n) l → f (along x l) ≤ℤ f x
  falls_along x [] e = omega (arith, ints)
  falls_along x (i ∷ l) e =
      let h = falls_along x l e.1 in
      let k = choice_falls (along x l) i e.0 in
      omega (arith, ints)

  -- higher prices never give more
  pub decreasing : (x y : Vector) → ((k : ℕ) → k ≤ n → x k ≤ℤ y k) → f y ≤ℤ f x
  decreasing x y h =
      let d : ℕ → ℕ = λ k. over (y k -ℤ x k) in
      let a = falls_along x (spread d (suc n)) (Each-spread (λ i. i ≤ n) d (suc n) (λ k l _. omega arith)) in
      let b = c.reads (along x (spread d (suc n))) y (λ k l. let s = along-spread n x d k l in let o = over_is (y k -ℤ x k) in let q = h k l in omega (arith, ints, clamps)) in
      omega (arith, ints)

  pub fall_range : (x : Vector) (s : Choices) → (pos 0 ≤ℤ fall_of f x s) × (fall_of f x s ≤ℤ w)
  fall_range x s =
      let a = decreasing x (plus x s) (λ k _. at_least (x k) (s k)) in
      let b = decreasing (plus x s) (plus (plus x s) (outside s)) (λ k _. at_least (plus x s k) (not (s k))) in
      let e = c.reads (shifted x (pos 1)) (plus (plus x s) (outside s)) (λ k _. one_each (x k) (s k)) in
      let r = c.shift x (pos 1) in
      (omega (arith, ints), omega (arith, ints))

  pub rho_range : (x : Vector) (s : Choices) → (pos 0 ≤ℤ rho f x s) × (rho f x s ≤ℤ w)
  rho_range x s =
      let r = fall_range (minus x s) s in
      let e = c.reads (plus (minus x s) s) x (λ k _. omega (arith, ints)) in
      (omega (arith, ints, r.0), omega (arith, ints, r.1))

  -- the table grows with the set
  pub rho_grows : (x : Vector) (s t : Choices) → ((k : ℕ) → k ≤ n → s k ≡ true → t k ≡ true) → rho f x s ≤ℤ rho f x t
  rho_grows x s t h =
      let a = decreasing (minus x t) (minus x s) (λ k l. step (x k) (s k) (t k) (h k l)) in
      omega (arith, ints)
    where
      step : (a : ℤ) (s t : Bool) → (s ≡ true → t ≡ true) → (a -ℤ bit t) ≤ℤ (a -ℤ bit s)
      step a true true h = omega (arith, ints)
      step a true false h = absurd (false≢true (h refl))
      step a false true h = omega (arith, ints)
      step a false false h = omega (arith, ints)

  -- at prices with room, and with no top above 1,000,000, the function is at most 5,000,000 totals
  pub value_range : ((i : ℕ) → 1 ≤ i → i ≤ n → Lies 1000000 (top i)) → (p : List ℤ) → HaveRoom n p → (pos 0 ≤ℤ f (with_null p)) × (f (with_null p) ≤ℤ (w *ℤ pos 5000000))
  value_range t p h =
      let s = c.size (with_null p) refl in
      let e = excess_bound n top (with_null p) (pos 5000000) (omega (arith, ints)) (λ i l m. let a = t i l m in let b = good_price n p h i l m in omega (arith, ints, a.0, a.1, b.0, b.1)) in
      let g = product_grows w (excess n top (with_null p)) (pos 5000000) (total_nonnegative some c) e in
      (s.0, omega (arith, ints, s.1))
