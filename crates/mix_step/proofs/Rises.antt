-- The climb by least steps stays at or below the least point, and each step brings it nearer to it where it is farthest below it.
use Rattle.std.proofs.Common.{◌≡◌, ℕ, zero, suc, ◌≤◌, Bool, true, false, ℤ, pos, negsuc, ◌+ℤ◌, ◌-ℤ◌, ◌≤ℤ◌, refl, arith, sym, cond, IsTrue, ◌↔◌}
use Rattle.std.proofs.lemmas.Int.{ints, clamps}
use Rattle.std.proofs.lemmas.Bool.{false≢true}
use Rattle.std.specs.Int.{int_min, int_max}
use Rattle.mix_num.specs.Vectors.{Vector, Choices, bit, plus, minus, either, Agree}
use Rattle.mix_num.proofs.Equalities.{int_eq_is}
use Rattle.mix_law.specs.Members.{KeepsLocal}
use Rattle.mix_law.proofs.Lattice.{lattice, lesser, greater}
use Rattle.mix_law.proofs.Exchanges.{AtMost, exchange_at, set_at, set_at_greatest}
use Rattle.mix_market.specs.Lyapunov.{IsBelow, IsLeastPoint}
use Rattle.mix_market.specs.Steepest.{IsMinimalSteepest}
use Rattle.mix_step.proofs.Climbs.{IsBestBelow, step_best}
use Rattle.mix_step.proofs.Gaps.{nowhere_reached}

-- two least points are one
pub same_point : (n : ℕ) (l : Vector → ℤ) (start p q : Vector) → p 0 ≡ pos 0 → q 0 ≡ pos 0 → IsLeastPoint n l start p → IsLeastPoint n l start q → Agree n p q
same_point n l start p q o z a b k h =
    let low = a.least q z b.above in
    let high = b.least p o a.above in
    let u = a.lowest q z b.above (omega (arith, ints)) k h in
    let v = b.lowest p o a.above (omega (arith, ints)) k h in
    omega (arith, ints)

lesser_above : (a b c : ℤ) → a ≤ℤ b → a ≤ℤ c → a ≤ℤ int_min b c
lesser_above a b c h k = omega (arith, ints, clamps)

greater_above : (a b c : ℤ) → a ≤ℤ c → a ≤ℤ int_max b c
greater_above a b c h = omega (arith, ints, clamps)

lesser_below : (b c : ℤ) → int_min b c ≤ℤ b
lesser_below b c = omega (arith, ints, clamps)

is_lesser : (b c : ℤ) → int_min b c ≡ b → b ≤ℤ c
is_lesser b c e = omega (arith, ints, clamps)

-- one step: u, p and whether the choice rises, and whether u is still farthest above it there
pub nearer_at : (u p m : ℤ) (s : Bool) → (u -ℤ p) ≤ℤ m → (u -ℤ (p +ℤ bit s)) ≤ℤ m
nearer_at u p m true h = omega (arith, ints)
nearer_at u p m false h = omega (arith, ints)

pub not_null : (u p : ℤ) (h : ℕ) (s f : Bool) → u ≡ pos 0 → p ≡ pos 0 → s ≡ false → (IsTrue f ↔ (u -ℤ (p +ℤ bit s) ≡ pos (suc h))) → f ≡ false
not_null u p h s false a b e g = refl
not_null u p h true true a b e g = absurd (false≢true (sym e))
not_null u p h false true a b e g = let q = g.0 refl in absurd (omega (arith, ints))

pub stays_over : (a u p : ℤ) (h : ℕ) (s f : Bool) → a ≤ℤ u → a ≤ℤ p → (IsTrue f ↔ (u -ℤ (p +ℤ bit s) ≡ pos (suc h))) → a ≤ℤ (u -ℤ bit f)
stays_over a u p h true true l k g = let q = g.0 refl in omega (arith, ints)
stays_over a u p h false true l k g = let q = g.0 refl in omega (arith, ints)
stays_over a u p h s false l k g = omega (arith, ints)

pub joined_at : (u p : ℤ) (h : ℕ) (s f : Bool) → (u -ℤ p) ≤ℤ pos (suc h) → (IsTrue f ↔ (u -ℤ (p +ℤ bit s) ≡ pos (suc h))) → (p +ℤ bit s) +ℤ bit f ≡ p +ℤ bit (cond s true f)
joined_at u p h true true l g = let q = g.0 refl in absurd (omega (arith, ints))
joined_at u p h true false l g = omega (arith, ints)
joined_at u p h false f l g = omega (arith, ints)

not_lowered : (u : ℤ) (f : Bool) → u ≤ℤ (u -ℤ bit f) → f ≡ false
not_lowered u true h = absurd (omega (arith, ints))
not_lowered u false h = refl

pub not_raised : (u p v : ℤ) (s : Bool) → (u -ℤ p) ≤ℤ v → v ≤ℤ pos 0 → (p +ℤ bit s) ≤ℤ u → s ≡ false
not_raised u p v true a b e = absurd (omega (arith, ints))
not_raised u p v false a b e = refl

pub null_kept : (a : ℤ) (s : Bool) → a ≡ pos 0 → s ≡ false → a +ℤ bit s ≡ pos 0
null_kept a true e g = absurd (false≢true (sym g))
null_kept a false e g = omega (arith, ints)

pub null_kept_down : (a : ℤ) (s : Bool) → a ≡ pos 0 → s ≡ false → a -ℤ bit s ≡ pos 0
null_kept_down a true e g = absurd (false≢true (sym g))
null_kept_down a false e g = omega (arith, ints)

neither : (a b : Bool) → a ≡ false → b ≡ false → cond a true b ≡ false
neither true b e g = absurd (false≢true (sym e))
neither false b e g = g

module _ {n : ℕ} {l : Vector → ℤ} {w : ℤ} (c : KeepsLocal n l w) (start u : Vector) (null : u 0 ≡ pos 0) (least : IsLeastPoint n l start u) where
  -- what is better than all between the start and it lies at or below the least point
  pub best_below : (p : Vector) → p 0 ≡ pos 0 → IsBestBelow n l start p → IsBelow n p u
  best_below p z b k i =
      let o : lesser p u 0 ≡ p 0 = omega (arith, ints, clamps) in
      let o2 : greater p u 0 ≡ pos 0 = omega (arith, ints, clamps) in
      let lo : IsBelow n start (lesser p u) = λ j q. lesser_above (start j) (p j) (u j) (b.above j q) (least.above j q) in
      let hi : IsBelow n (lesser p u) p = λ j q. lesser_below (p j) (u j) in
      let m = lattice c p u in
      let up = least.least (greater p u) o2 (λ j q. greater_above (start j) (p j) (u j) (least.above j q)) in
      let v = b.least (lesser p u) o lo hi in
      is_lesser (p k) (u k) (b.alone (lesser p u) o lo hi (omega (arith, ints)) k i)

  -- a least step is taken wherever the least point is farthest above
  pub step_nearer : (p : Vector) (s : Choices) → p 0 ≡ pos 0 → IsBestBelow n l start p → IsMinimalSteepest n l p s → (h : ℕ) → AtMost n u p (pos (suc h)) → AtMost n u (plus p s) (pos h)
  step_nearer p s z b t h d =
      let x : Vector = plus p s in
      let far : Choices = set_at u x (pos (suc h)) in
      let is : (k : ℕ) → IsTrue (far k) ↔ (u k -ℤ x k ≡ pos (suc h)) = λ k. int_eq_is (u k -ℤ x k) (pos (suc h)) in
      let a : AtMost n u x (pos (suc h)) = λ k i. nearer_at (u k) (p k) (pos (suc h)) (s k) (d k i) in
      let e = exchange_at c u x (pos (suc h)) far (set_at_greatest n u x (pos (suc h)) a) in
      let o : far 0 ≡ false = not_null (u 0) (p 0) h (s 0) (far 0) null z t.goods (is 0) in
      let zero : minus u far 0 ≡ pos 0 = null_kept_down (u 0) (far 0) null o in
      let stays : IsBelow n start (minus u far) = λ k i. stays_over (start k) (u k) (p k) h (s k) (far k) (least.above k i) (b.above k i) (is k) in
      let low = least.least (minus u far) zero stays in
      let joined = c.reads (plus x far) (plus p (either s far)) (λ k i. joined_at (u k) (p k) h (s k) (far k) (d k i) (is k)) in
      let steep = t.steepest (either s far) (neither (s 0) (far 0) t.goods o) in
      let back = least.lowest (minus u far) zero stays (omega (arith, ints)) in
      nowhere_reached n u x h a (λ k i. not_lowered (u k) (far k) (back k i))

  -- so a least step that isn't empty takes one from a bound on how far the least point is above
  pub step_counts : (p : Vector) (s : Choices) → p 0 ≡ pos 0 → IsBestBelow n l start p → IsMinimalSteepest n l p s → (((k : ℕ) → k ≤ n → s k ≡ false) → ⊥) → (v : ℤ) → AtMost n u p v → AtMost n u (plus p s) (v -ℤ pos 1)
  step_counts p s z b t some v d = at v d
    where
      none : (v : ℤ) → v ≤ℤ pos 0 → AtMost n u p v → ⊥
      none v low d = some (λ k i. not_raised (u k) (p k) v (s k) (d k i) low (best_below (plus p s) (null_kept (p 0) (s 0) z t.goods) (step_best c start p b s t) k i))

      at : (v : ℤ) → AtMost n u p v → AtMost n u (plus p s) (v -ℤ pos 1)
      at (pos zero) d = absurd (none (pos 0) (omega (arith, ints)) d)
      at (pos (suc h)) d = λ k i. let e = step_nearer p s z b t h d k i in omega (arith, ints)
      at (negsuc h) d = absurd (none (negsuc h) (omega (arith, ints)) d)
