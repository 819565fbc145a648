-- How far one vector lies above another: bounds on each entry, and steps that make the greatest gap smaller.
use Rattle.std.proofs.Common.{◌≡◌, ℕ, zero, suc, ◌≤◌, ◌<◌, ◌⊎◌, inl, inr, Bool, true, false, ℤ, pos, ◌-ℤ◌, ◌≤ℤ◌, arith, subst, sym, eq-or-lt_of_le, IsTrue, ◌↔◌}
use Rattle.std.proofs.lemmas.Int.{ints, clamps, by_lt_z}
use Rattle.std.proofs.lemmas.Bool.{false≢true}
use Rattle.std.specs.Int.{int_max}
use Rattle.mix_num.specs.Vectors.{Vector}
use Rattle.mix_num.proofs.Equalities.{int_eq_is}
use Rattle.mix_law.proofs.Exchanges.{AtMost, set_at}
use Rattle.mix_market.specs.Gaps.{greatest_gap, IsAboveSomewhere}
use Rattle.mix_market.specs.Lyapunov.{IsBelow}

-- no entry passes the greatest gap
pub gap_covers : (n : ℕ) (x y : Vector) → AtMost n x y (greatest_gap n x y)
unfolding greatest_gap
gap_covers zero x y k h =
    let e : k ≡ 0 = omega arith in
    let P : ℕ → Type 0 = λ v. (x v -ℤ y v) ≤ℤ (x 0 -ℤ y 0) in
    let here : (x 0 -ℤ y 0) ≤ℤ (x 0 -ℤ y 0) = omega (arith, ints) in
    subst P (sym e) here
gap_covers (suc n) x y k h = step (eq-or-lt_of_le h) (λ l. gap_covers n x y k l)
  where
    step : (k ≡ suc n) ⊎ (k < suc n) → (k ≤ n → (x k -ℤ y k) ≤ℤ greatest_gap n x y) → (x k -ℤ y k) ≤ℤ int_max (greatest_gap n x y) (x (suc n) -ℤ y (suc n))
    step (inl e) before =
        let P : ℕ → Type 0 = λ v. (x v -ℤ y v) ≤ℤ int_max (greatest_gap n x y) (x (suc n) -ℤ y (suc n)) in
        let here : (x (suc n) -ℤ y (suc n)) ≤ℤ int_max (greatest_gap n x y) (x (suc n) -ℤ y (suc n)) = omega (arith, ints, clamps) in
        subst P (sym e) here
    step (inr l) before = let u = before (omega arith) in omega (arith, ints, clamps)

-- and it passes no bound on the entries
pub gap_least : (n : ℕ) (x y : Vector) (m : ℤ) → AtMost n x y m → greatest_gap n x y ≤ℤ m
unfolding greatest_gap
gap_least zero x y m h = h 0 (omega arith)
gap_least (suc n) x y m h =
    let u = gap_least n x y m (λ k l. h k (omega arith)) in
    let v = h (suc n) (omega arith) in
    omega (arith, ints, clamps)

below_it : (a b : ℤ) (h : ℕ) (f : Bool) → (a -ℤ b) ≤ℤ pos (suc h) → (IsTrue f ↔ (a -ℤ b ≡ pos (suc h))) → f ≡ false → (a -ℤ b) ≤ℤ pos h
below_it a b h true l e z = absurd (false≢true (sym z))
below_it a b h false l e z = let q : (a -ℤ b ≡ pos (suc h)) → ⊥ = λ r. false≢true (e.1 r) in omega (arith, ints)

-- a bound that is reached nowhere is no less by one
pub nowhere_reached : (n : ℕ) (x y : Vector) (h : ℕ) → AtMost n x y (pos (suc h)) → ((k : ℕ) → k ≤ n → set_at x y (pos (suc h)) k ≡ false) → AtMost n x y (pos h)
nowhere_reached n x y h a none k l = below_it (x k) (y k) h (set_at x y (pos (suc h)) k) (a k l) (int_eq_is (x k -ℤ y k) (pos (suc h))) (none k l)

-- one vector is at or below another, or above it somewhere
pub below_or_above : (n : ℕ) (x y : Vector) → IsBelow n x y ⊎ IsAboveSomewhere n x y
below_or_above zero x y = by_lt_z (y 0) (x 0) (λ h. inr (0, omega arith, h)) (λ h. inl (λ k i. let e : k ≡ 0 = omega arith in subst (λ (v : ℕ). x v ≤ℤ y v) (sym e) h))
below_or_above (suc n) x y = by_lt_z (y (suc n)) (x (suc n)) (λ h. inr (suc n, omega arith, h)) (λ h. join h (below_or_above n x y))
  where
    join : x (suc n) ≤ℤ y (suc n) → IsBelow n x y ⊎ IsAboveSomewhere n x y → IsBelow (suc n) x y ⊎ IsAboveSomewhere (suc n) x y
    join h (inl b) = inl (λ k i. step k (eq-or-lt_of_le i))
      where
        step : (k : ℕ) → (k ≡ suc n) ⊎ (k < suc n) → x k ≤ℤ y k
        step k (inl e) = subst (λ (v : ℕ). x v ≤ℤ y v) (sym e) h
        step k (inr l) = b k (omega arith)
    join h (inr a) = inr (a.0, omega arith, a.2)
