-- Falling by the largest steepest sets from a point that is least among all above it: it ends at the least point above the floor, and each step brings it nearer to it.
use Rattle.std.proofs.Common.{◌≡◌, ℕ, zero, suc, ◌≤◌, Bool, true, false, ℤ, pos, negsuc, ◌+ℤ◌, ◌-ℤ◌, ◌≤ℤ◌, ◌<ℤ◌, refl, arith, sym, ◌∙◌, cond, int_lt, IsTrue, ◌↔◌}
use Rattle.std.proofs.lemmas.Int.{ints, clamps}
use Rattle.std.proofs.lemmas.Bool.{false≢true}
use Rattle.std.specs.Int.{int_min}
use Rattle.mix_num.specs.Vectors.{Vector, Choices, bit, plus, minus, either, Agree}
use Rattle.mix_num.proofs.Equalities.{int_eq_is}
use Rattle.mix_law.specs.Members.{KeepsLocal}
use Rattle.mix_law.proofs.Lattice.{lattice, lesser, greater}
use Rattle.mix_law.proofs.Exchanges.{AtMost, bound, exchange_at, set_at, set_at_greatest, raised_at}
use Rattle.mix_market.specs.Lyapunov.{IsBelow, IsLeastPoint}
use Rattle.mix_market.specs.LargestFalls.{IsLeastAbove, MayFall, IsLargestFall}
use Rattle.mix_step.proofs.Gaps.{nowhere_reached}

-- a point with the same prices is
pub same_above : {n : ℕ} {l : Vector → ℤ} {w : ℤ} → KeepsLocal n l w → (p q : Vector) → Agree n q p → IsLeastAbove n l p → IsLeastAbove n l q
same_above c p q e a = record { least = λ r z h. let same = c.reads q p e in let u = a.least r z (λ k i. let v = e k i in let b = h k i in omega (arith, ints)) in omega (arith, ints) }

lesser_above : (a b c : ℤ) → a ≤ℤ b → a ≤ℤ c → a ≤ℤ int_min b c
lesser_above a b c h k = omega (arith, ints, clamps)

is_lowered : (a b : ℤ) (s : Bool) → (a -ℤ bit s) ≤ℤ b → int_min b a ≡ a -ℤ bit (int_lt b a)
is_lowered a b true h = grind (arith, ints)
is_lowered a b false h = grind (arith, ints)

lower_within : (f a b : ℤ) (s : Bool) → (a -ℤ bit s) ≤ℤ b → (s ≡ true → f <ℤ a) → int_lt b a ≡ true → f <ℤ a
lower_within f a b true h g e = g refl
lower_within f a b false h g e = grind (arith, ints)

not_lower : (a b : ℤ) → a ≡ pos 0 → b ≡ pos 0 → int_lt a b ≡ false
not_lower a b e g = grind (arith, ints)

fallen_over : (f a : ℤ) (s : Bool) → f ≤ℤ a → (s ≡ true → f <ℤ a) → f ≤ℤ (a -ℤ bit s)
fallen_over f a true h g = let u = g refl in omega (arith, ints)
fallen_over f a false h g = omega (arith, ints)

null_kept : (a : ℤ) (s : Bool) → a ≡ pos 0 → s ≡ false → a -ℤ bit s ≡ pos 0
null_kept a true e g = absurd (false≢true (sym g))
null_kept a false e g = omega (arith, ints)

null_raised : (a : ℤ) (s : Bool) → a ≡ pos 0 → s ≡ false → a +ℤ bit s ≡ pos 0
null_raised a true e g = absurd (false≢true (sym g))
null_raised a false e g = omega (arith, ints)

-- one step: p and a below it, whether the choice falls, and whether p is still farthest above a there
nearer_at : (p a m : ℤ) (s : Bool) → (p -ℤ a) ≤ℤ m → ((p -ℤ bit s) -ℤ a) ≤ℤ m
nearer_at p a m true h = omega (arith, ints)
nearer_at p a m false h = omega (arith, ints)

not_null : (p a : ℤ) (h : ℕ) (s f : Bool) → p ≡ pos 0 → a ≡ pos 0 → s ≡ false → (IsTrue f ↔ ((p -ℤ bit s) -ℤ a ≡ pos (suc h))) → f ≡ false
not_null p a h s false u v e g = refl
not_null p a h true true u v e g = absurd (false≢true (sym e))
not_null p a h false true u v e g = let q = g.0 refl in absurd (omega (arith, ints))

rises_over : (low p a : ℤ) (h : ℕ) (s f : Bool) → low ≤ℤ a → low ≤ℤ (a +ℤ bit f)
rises_over low p a h s true l = omega (arith, ints)
rises_over low p a h s false l = omega (arith, ints)

joined_at : (p a : ℤ) (h : ℕ) (s f : Bool) → (p -ℤ a) ≤ℤ pos (suc h) → (IsTrue f ↔ ((p -ℤ bit s) -ℤ a ≡ pos (suc h))) → (p -ℤ bit s) -ℤ bit f ≡ p -ℤ bit (cond s true f)
joined_at p a h true true l g = let q = g.0 refl in absurd (omega (arith, ints))
joined_at p a h true false l g = omega (arith, ints)
joined_at p a h false f l g = omega (arith, ints)

joined_may : (low p a : ℤ) (h : ℕ) (s f : Bool) → low ≤ℤ a → (s ≡ true → low <ℤ p) → (IsTrue f ↔ ((p -ℤ bit s) -ℤ a ≡ pos (suc h))) → cond s true f ≡ true → low <ℤ p
joined_may low p a h true f l m g e = m refl
joined_may low p a h false true l m g e = let q = g.0 refl in omega (arith, ints)
joined_may low p a h false false l m g e = absurd (false≢true e)

-- what is farthest falls: where the largest set holds both, no choice is left
none_left : (p a : ℤ) (h : ℕ) (s f : Bool) → (p -ℤ a) ≤ℤ pos (suc h) → (IsTrue f ↔ ((p -ℤ bit s) -ℤ a ≡ pos (suc h))) → (cond s true f ≡ true → s ≡ true) → f ≡ false
none_left p a h s false l g m = refl
none_left p a h true true l g m = let q = g.0 refl in absurd (omega (arith, ints))
none_left p a h false true l g m = absurd (false≢true (m refl))

neither : (a b : Bool) → a ≡ false → b ≡ false → cond a true b ≡ false
neither true b e g = absurd (false≢true (sym e))
neither false b e g = g

not_fallen : (p a v : ℤ) (s : Bool) → (p -ℤ a) ≤ℤ v → v ≤ℤ pos 0 → a ≤ℤ (p -ℤ bit s) → s ≡ false
not_fallen p a v true h l e = absurd (omega (arith, ints))
not_fallen p a v false h l e = refl

module _ {n : ℕ} {l : Vector → ℤ} {w : ℤ} (c : KeepsLocal n l w) (floor : Vector) where
  -- the least point at or above the floor is at or below each point that is least among all above it
  pub answer_below : (p a : Vector) → p 0 ≡ pos 0 → a 0 ≡ pos 0 → IsBelow n floor p → IsLeastAbove n l p → IsLeastPoint n l floor a → IsBelow n a p
  answer_below p a z o h up least k i =
      let m = lattice c p a in
      let null : lesser p a 0 ≡ pos 0 = omega (arith, ints, clamps) in
      let null2 : greater p a 0 ≡ pos 0 = omega (arith, ints, clamps) in
      let over : IsBelow n floor (lesser p a) = λ j q. lesser_above (floor j) (p j) (a j) (h j q) (least.above j q) in
      let u = least.least (lesser p a) null over in
      let v = up.least (greater p a) null2 (λ j q. omega (arith, ints, clamps)) in
      let low = least.lowest (lesser p a) null over (omega (arith, ints)) k i in
      omega (arith, ints, clamps)

  -- a steepest fall leads to such a point again
  pub fall_above : (p : Vector) (s : Choices) → p 0 ≡ pos 0 → IsLargestFall n l floor p s → IsLeastAbove n l p → IsLeastAbove n l (minus p s)
  fall_above p s z f up = record {
    least = λ q o h.
        let t : Choices = λ k. int_lt (q k) (p k) in
        let m = lattice c q p in
        let null : greater q p 0 ≡ pos 0 = omega (arith, ints, clamps) in
        let v = up.least (greater q p) null (λ j i. omega (arith, ints, clamps)) in
        let same = c.reads (lesser q p) (minus p t) (λ k i. is_lowered (p k) (q k) (s k) (h k i)) in
        let may : MayFall n floor p t = record { goods = not_lower (q 0) (p 0) o z; above = λ k i e. lower_within (floor k) (p k) (q k) (s k) (h k i) (f.may.above k i) e } in
        let steep = f.steepest t may in
        omega (arith, ints);
  }

  pub fall_over : (p : Vector) (s : Choices) → MayFall n floor p s → IsBelow n floor p → IsBelow n floor (minus p s)
  fall_over p s m h k i = fallen_over (floor k) (p k) (s k) (h k i) (m.above k i)

  module _ (a : Vector) (null : a 0 ≡ pos 0) (least : IsLeastPoint n l floor a) where
    -- the fall is taken wherever the point is farthest above the least point
    pub fall_nearer : (p : Vector) (s : Choices) → p 0 ≡ pos 0 → IsLargestFall n l floor p s → (h : ℕ) → AtMost n p a (pos (suc h)) → AtMost n (minus p s) a (pos h)
    fall_nearer p s z f h d =
        let x : Vector = minus p s in
        let far : Choices = set_at x a (pos (suc h)) in
        let is : (k : ℕ) → IsTrue (far k) ↔ (x k -ℤ a k ≡ pos (suc h)) = λ k. int_eq_is (x k -ℤ a k) (pos (suc h)) in
        let b : AtMost n x a (pos (suc h)) = λ k i. nearer_at (p k) (a k) (pos (suc h)) (s k) (d k i) in
        let e = exchange_at c x a (pos (suc h)) far (set_at_greatest n x a (pos (suc h)) b) in
        let o : far 0 ≡ false = not_null (p 0) (a 0) h (s 0) (far 0) z null f.may.goods (is 0) in
        let low = least.least (plus a far) (null_raised (a 0) (far 0) null o) (λ k i. rises_over (floor k) (p k) (a k) h (s k) (far k) (least.above k i)) in
        let joined = c.reads (minus x far) (minus p (either s far)) (λ k i. joined_at (p k) (a k) h (s k) (far k) (d k i) (is k)) in
        let may : MayFall n floor p (either s far) = record { goods = neither (s 0) (far 0) f.may.goods o; above = λ k i q. joined_may (floor k) (p k) (a k) h (s k) (far k) (least.above k i) (f.may.above k i) (is k) q } in
        let steep = f.steepest (either s far) may in
        let all = f.largest (either s far) may (omega (arith, ints)) in
        nowhere_reached n x a h b (λ k i. none_left (p k) (a k) h (s k) (far k) (d k i) (is k) (all k i))

    -- so a fall that isn't empty takes one from a bound on how far the point is above
    pub fall_counts : (p : Vector) (s : Choices) → p 0 ≡ pos 0 → IsBelow n floor p → IsLeastAbove n l p → IsLargestFall n l floor p s → (((k : ℕ) → k ≤ n → s k ≡ false) → ⊥) → (v : ℤ) → AtMost n p a v → AtMost n (minus p s) a (v -ℤ pos 1)
    fall_counts p s z h up f some v d = at v d
      where
        none : (v : ℤ) → v ≤ℤ pos 0 → AtMost n p a v → ⊥
        none v low d = some (λ k i. not_fallen (p k) (a k) v (s k) (d k i) low (answer_below (minus p s) a (null_kept (p 0) (s 0) z f.may.goods) null (fall_over p s f.may h) (fall_above p s z f up) least k i))

        at : (v : ℤ) → AtMost n p a v → AtMost n (minus p s) a (v -ℤ pos 1)
        at (pos zero) d = absurd (none (pos 0) (omega (arith, ints)) d)
        at (pos (suc h)) d = λ k i. let e = fall_nearer p s z f h d k i in omega (arith, ints)
        at (negsuc h) d = absurd (none (negsuc h) (omega (arith, ints)) d)

no_bit : (a : ℤ) (s : Bool) → s ≡ false → a -ℤ bit s ≡ a
no_bit a true e = absurd (false≢true (sym e))
no_bit a false e = omega (arith, ints)

no_raise : (a : ℤ) (s : Bool) → s ≡ false → a +ℤ bit s ≡ a
no_raise a true e = absurd (false≢true (sym e))
no_raise a false e = omega (arith, ints)

empty_at : (s t : Bool) → s ≡ false → (t ≡ true → s ≡ true) → t ≡ false
empty_at s true e h = absurd (false≢true (sym e ∙ h refl))
empty_at s false e h = refl

raised_below : (p r : ℤ) (h : ℕ) (f : Bool) → r ≤ℤ p → (IsTrue f ↔ (p -ℤ r ≡ pos (suc h))) → (r +ℤ bit f) ≤ℤ p
raised_below p r h true l g = let q = g.0 refl in omega (arith, ints)
raised_below p r h false l g = omega (arith, ints)

far_over : (low p r : ℤ) (h : ℕ) (f : Bool) → low ≤ℤ r → (IsTrue f ↔ (p -ℤ r ≡ pos (suc h))) → f ≡ true → low <ℤ p
far_over low p r h true l g e = let q = g.0 refl in omega (arith, ints)
far_over low p r h false l g e = absurd (false≢true e)

far_null : (p r : ℤ) (h : ℕ) (f : Bool) → p ≡ pos 0 → r ≡ pos 0 → (IsTrue f ↔ (p -ℤ r ≡ pos (suc h))) → f ≡ false
far_null p r h true e o g = let q = g.0 refl in absurd (omega (arith, ints))
far_null p r h false e o g = refl

module _ {n : ℕ} {l : Vector → ℤ} {w : ℤ} (c : KeepsLocal n l w) (floor p : Vector) (s : Choices) (null : p 0 ≡ pos 0) (f : IsLargestFall n l floor p s) (none : (k : ℕ) → k ≤ n → s k ≡ false) where
  -- where the largest fall is empty, every other fall makes l greater
  no_fall : (t : Choices) → MayFall n floor p t → l p ≤ℤ l (minus p t)
  no_fall t m =
      let same = c.reads (minus p s) p (λ k i. no_bit (p k) (s k) (none k i)) in
      let steep = f.steepest t m in
      omega (arith, ints)

  only_empty : (t : Choices) → MayFall n floor p t → l (minus p t) ≡ l p → (k : ℕ) → k ≤ n → t k ≡ false
  only_empty t m e k i =
      let same = c.reads (minus p s) p (λ k i. no_bit (p k) (s k) (none k i)) in
      empty_at (s k) (t k) (none k i) (f.largest t m (omega (arith, ints)) k i)

  -- so it is less than at all others from the floor to it
  down_from : (h : ℕ) (r : Vector) → r 0 ≡ pos 0 → IsBelow n floor r → IsBelow n r p → AtMost n p r (pos h) → (l p ≤ℤ l r) × (l r ≡ l p → Agree n r p)
  down_from zero r z a b d =
      let same : Agree n r p = λ k i. let u = b k i in let v = d k i in omega (arith, ints) in
      let e = c.reads r p same in
      (omega (arith, ints), λ q. same)
  down_from (suc h) r z a b d =
      let far : Choices = set_at p r (pos (suc h)) in
      let is : (k : ℕ) → IsTrue (far k) ↔ (p k -ℤ r k ≡ pos (suc h)) = λ k. int_eq_is (p k -ℤ r k) (pos (suc h)) in
      let e = exchange_at c p r (pos (suc h)) far (set_at_greatest n p r (pos (suc h)) d) in
      let o : far 0 ≡ false = far_null (p 0) (r 0) h (far 0) null z (is 0) in
      let may : MayFall n floor p far = record { goods = o; above = λ k i q. far_over (floor k) (p k) (r k) h (far k) (a k i) (is k) q } in
      let rest = down_from h (plus r far) (null_raised (r 0) (far 0) z o)
      (λ k i. rises_over (floor k) (p k) (r k) h (far k) (far k) (a k i))
      (λ k i. raised_below (p k) (r k) h (far k) (b k i) (is k))
      (λ k i. raised_at (p k) (r k) h (far k) (d k i) (is k)) in
      let down = no_fall far may in
      let first = rest.0 in (
        omega (arith, ints),
        λ q.
            let even = only_empty far may (omega (arith, ints)) in
            let same : Agree n (plus r far) r = λ k i. no_raise (r k) (far k) (even k i) in
            let back = c.reads (plus r far) r same in
            let agree = rest.1 (omega (arith, ints)) in
            λ k i. let u = agree k i in let v = same k i in omega (arith, ints),
      )

  -- and the point is the least one at or above the floor
  pub fall_ends : IsBelow n floor p → IsLeastAbove n l p → IsLeastPoint n l floor p
  fall_ends h up = record {
    above = h;
    least = λ q z a. (facts q z a).0;
    lowest = λ q z a. (facts q z a).1;
  }
    where
      facts : (q : Vector) → q 0 ≡ pos 0 → IsBelow n floor q → (l p ≤ℤ l q) × (l q ≡ l p → IsBelow n p q)
      facts q z a =
          let m = lattice c p q in
          let o : lesser p q 0 ≡ pos 0 = omega (arith, ints, clamps) in
          let o2 : greater p q 0 ≡ pos 0 = omega (arith, ints, clamps) in
          let d = bound (λ k. p k -ℤ lesser p q k) (suc n) in
          let down = down_from d.0 (lesser p q) o (λ k i. lesser_above (floor k) (p k) (q k) (h k i) (a k i)) (λ k i. omega (arith, ints, clamps)) (λ k i. d.1 k (omega arith)) in
          let first = down.0 in
          let v = up.least (greater p q) o2 (λ k i. omega (arith, ints, clamps)) in (
            omega (arith, ints),
            λ e.
                let agree = down.1 (omega (arith, ints)) in
                λ k i. let u = agree k i in omega (arith, ints, clamps),
          )
