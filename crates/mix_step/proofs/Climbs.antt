-- The climb: each point on the way is better than every other point between the start and it, and where no set of goods betters it, it is the least point.
use Rattle.std.proofs.Common.{◌≡◌, ℕ, zero, suc, ◌≤◌, Bool, true, false, ℤ, pos, ◌+ℤ◌, ◌-ℤ◌, ◌≤ℤ◌, ◌<ℤ◌, refl, arith, sym, ap, ◌∙◌, int_lt, cond, eqb, eqb-true, eq-eqb}
use Rattle.std.proofs.lemmas.Int.{ints, clamps}
use Rattle.std.proofs.lemmas.Bool.{false≢true}
use Rattle.std.specs.Int.{int_min, int_max}
use Rattle.mix_num.specs.Vectors.{Vector, Choices, bit, plus, minus, only, Agree}
use Rattle.mix_law.specs.Members.{KeepsLocal}
use Rattle.mix_law.proofs.Lattice.{lattice, lesser, greater}
use Rattle.mix_law.proofs.Exchanges.{AtMost, exchange_at, set_at, set_at_greatest, bound, lowered_at, stays_above}
use Rattle.mix_market.specs.Lyapunov.{IsBelow, IsLeastPoint}
use Rattle.mix_market.specs.Steepest.{IsGoods, IsMinimalSteepest, slope_of}

-- p is better than every other point from the start to it
pub record IsBestBelow (n : ℕ) (l : Vector → ℤ) (start p : Vector) : Type 0 where
  pub above : IsBelow n start p
  pub least : (q : Vector) → q 0 ≡ p 0 → IsBelow n start q → IsBelow n q p → l p ≤ℤ l q
  pub alone : (q : Vector) → q 0 ≡ p 0 → IsBelow n start q → IsBelow n q p → l q ≡ l p → Agree n q p

-- the start itself
pub start_best : {n : ℕ} {l : Vector → ℤ} {w : ℤ} → KeepsLocal n l w → (start p : Vector) → Agree n start p → IsBestBelow n l start p
start_best {n} {l} c start p e = record {
  above = λ k h. let u = e k h in omega (arith, ints);
  least = λ q o a b. let same = c.reads p q (λ k h. let u = e k h in let v = a k h in let w = b k h in omega (arith, ints)) in omega (arith, ints);
  alone = λ q o a b r k h. let u = e k h in let v = a k h in let w = b k h in omega (arith, ints);
}

-- the choices at which q is above p
abbrev pub raised_in : Vector → Vector → Choices
raised_in p q = λ k. int_lt (p k) (q k)

greater_at : (a b : ℤ) (s : Bool) → b ≤ℤ (a +ℤ bit s) → int_max a b ≡ a +ℤ bit (int_lt a b)
greater_at a b true h = grind (arith, ints)
greater_at a b false h = grind (arith, ints)

lesser_above : (a b c : ℤ) → a ≤ℤ b → a ≤ℤ c → a ≤ℤ int_min b c
lesser_above a b c h k = omega (arith, ints, clamps)

lesser_below : (b c : ℤ) → int_min b c ≤ℤ b
lesser_below b c = omega (arith, ints, clamps)

same_entry : (a b : ℤ) (s : Bool) → b ≤ℤ (a +ℤ bit s) → int_min a b ≡ a → (s ≡ true → int_lt a b ≡ true) → b ≡ a +ℤ bit s
same_entry a b true h e f = let l = f refl in let k : a <ℤ b = grind (arith, ints) in omega (arith, ints)
same_entry a b false h e f = omega (arith, ints, clamps)

higher : (a b : ℤ) (s : Bool) → a ≤ℤ b → a ≤ℤ (b +ℤ bit s)
higher a b true h = omega (arith, ints)
higher a b false h = omega (arith, ints)

same_null : (a b : ℤ) (s : Bool) → s ≡ false → b ≡ a +ℤ bit s → b ≡ a
same_null a b true g e = absurd (false≢true (sym g))
same_null a b false g e = omega (arith, ints)

module _ {n : ℕ} {l : Vector → ℤ} {w : ℤ} (c : KeepsLocal n l w) (start p : Vector) (b : IsBestBelow n l start p) where
  -- one least step keeps it
  pub step_best : (s : Choices) → IsMinimalSteepest n l p s → IsBestBelow n l start (plus p s)
  step_best s t = record {
    above = λ k i. higher (start k) (p k) (s k) (b.above k i);
    least = λ q e a h. (facts q e a h).0;
    alone = λ q e a h m.
        let f = facts q e a h in
        let g = f.1 m in
        λ k i. same_entry (p k) (q k) (s k) (h k i) (g.0 k i) (λ r. t.minimal (raised_in p q) (goods q e) g.1 k i r);
  }
    where
      goods : (q : Vector) → q 0 ≡ plus p s 0 → IsGoods (raised_in p q)
      goods q e = let r = same_null (p 0) (q 0) (s 0) t.goods e in grind (arith, ints)

      facts : (q : Vector) → q 0 ≡ plus p s 0 → IsBelow n start q → IsBelow n q (plus p s) → (l (plus p s) ≤ℤ l q) × (l q ≡ l (plus p s) → Agree n (lesser p q) p × (slope_of l p (raised_in p q) ≡ slope_of l p s))
      facts q e a h =
          let z = same_null (p 0) (q 0) (s 0) t.goods e in
          let o : lesser p q 0 ≡ p 0 = omega (arith, ints, clamps) in
          let lo : IsBelow n start (lesser p q) = λ k i. lesser_above (start k) (p k) (q k) (b.above k i) (a k i) in
          let hi : IsBelow n (lesser p q) p = λ k i. lesser_below (p k) (q k) in
          let m = lattice c p q in
          let g = c.reads (greater p q) (plus p (raised_in p q)) (λ k i. greater_at (p k) (q k) (s k) (h k i)) in
          let u = b.least (lesser p q) o lo hi in
          let v = t.steepest (raised_in p q) (goods q e) in
          (omega (arith, ints), λ r. (b.alone (lesser p q) o lo hi (omega (arith, ints)), omega (arith, ints)))

  -- where no set of goods betters p, it is least among the points at or above it
  up_from : ((t : Choices) → IsGoods t → l p ≤ℤ l (plus p t)) → (h : ℕ) (q : Vector) → q 0 ≡ p 0 → AtMost n q p (pos h) → IsBelow n p q → l p ≤ℤ l q
  up_from g zero q z d a =
      let e = c.reads p q (λ k i. let u = d k i in let v = a k i in omega (arith, ints)) in
      omega (arith, ints)
  up_from g (suc h) q z d a =
      let s = set_at q p (pos (suc h)) in
      let i = set_at_greatest n q p (pos (suc h)) d in
      let e = exchange_at c q p (pos (suc h)) s i in
      let o : s 0 ≡ false = grind (arith, ints) in
      let z2 : minus q s 0 ≡ p 0 = low_null (q 0) (p 0) (s 0) z o in
      let r = up_from g h (minus q s) z2 (λ k j. lowered_at (q k) (p k) h (s k) (d k j) (i.members k j)) (λ k j. stays_above (q k) (p k) h (s k) (a k j) (i.members k j)) in
      let u = g s o in
      omega (arith, ints)
    where
      low_null : (a b : ℤ) (s : Bool) → a ≡ b → s ≡ false → (a -ℤ bit s) ≡ b
      low_null a b true e f = absurd (false≢true (sym f))
      low_null a b false e f = omega (arith, ints)

  -- where no set of goods betters p, it is the least point
  pub end_least : p 0 ≡ pos 0 → ((t : Choices) → IsGoods t → l p ≤ℤ l (plus p t)) → IsLeastPoint n l start p
  end_least null g = record {
    above = b.above;
    least = λ q z a. (facts q z a).0;
    lowest = λ q z a. (facts q z a).1;
  }
    where
      facts : (q : Vector) → q 0 ≡ pos 0 → IsBelow n start q → (l p ≤ℤ l q) × (l q ≡ l p → IsBelow n p q)
      facts q z a =
          let o : lesser p q 0 ≡ p 0 = omega (arith, ints, clamps) in
          let o2 : greater p q 0 ≡ p 0 = omega (arith, ints, clamps) in
          let lo : IsBelow n start (lesser p q) = λ k i. lesser_above (start k) (p k) (q k) (b.above k i) (a k i) in
          let hi : IsBelow n (lesser p q) p = λ k i. lesser_below (p k) (q k) in
          let m = lattice c p q in
          let u = b.least (lesser p q) o lo hi in
          let d = bound (λ k. greater p q k -ℤ p k) (suc n) in
          let v = up_from g d.0 (greater p q) o2 (λ k i. d.1 k (omega arith)) (λ k i. omega (arith, ints, clamps)) in (
            omega (arith, ints),
            λ e.
                let f = b.alone (lesser p q) o lo hi (omega (arith, ints)) in
                λ k i. let r = f k i in omega (arith, ints, clamps),
          )

-- where prices are the same, so is what was said of them
pub best_same : {n : ℕ} {l : Vector → ℤ} {w : ℤ} → KeepsLocal n l w → (start p q : Vector) → Agree n q p → IsBestBelow n l start p → IsBestBelow n l start q
best_same {n} {l} c start p q e b = record {
  above = λ k h. let u = e k h in let v = b.above k h in omega (arith, ints);
  least = λ r o a h. let same = c.reads q p e in let null = e 0 (omega arith) in let u = b.least r (o ∙ null) a (λ k i. let v = h k i in let w = e k i in omega (arith, ints)) in omega (arith, ints);
  alone = λ r o a h m k i. let same = c.reads q p e in let null = e 0 (omega arith) in let u = b.alone r (o ∙ null) a (λ k i. let v = h k i in let w = e k i in omega (arith, ints)) (m ∙ same) k i in u ∙ sym (e k i);
}

-- a set less one of its choices
abbrev pub without : ℕ → Choices → Choices
without i s = λ k. cond (eqb k i) false (s k)

put_back : (a : ℤ) (b same : Bool) → (same ≡ true → b ≡ true) → a +ℤ bit b ≡ (a +ℤ bit (cond same false b)) +ℤ bit same
put_back a b false h = omega (arith, ints)
put_back a true true h = omega (arith, ints)
put_back a false true h = absurd (false≢true (h refl))

-- a good whose rise costs something by itself isn't in the minimal steepest set
pub not_wanted : {n : ℕ} {l : Vector → ℤ} {w : ℤ} → KeepsLocal n l w → (x : Vector) (s : Choices) → IsMinimalSteepest n l x s → (i : ℕ) → i ≤ n → l (plus x (without i s)) ≤ℤ l (plus (plus x (without i s)) (only i)) → s i ≡ true → ⊥
not_wanted {n} {l} c x s m i h up inside =
    let fewer = without i s in
    let own : (k : ℕ) → eqb k i ≡ true → s k ≡ true = λ k q. ap s (eqb-true k i q) ∙ inside in
    let goods : fewer 0 ≡ false = null (eqb 0 i) (s 0) m.goods in
    let same = c.reads (plus x s) (plus (plus x fewer) (only i)) (λ k q. put_back (x k) (s k) (eqb k i) (own k)) in
    let a = m.steepest fewer goods in
    let back = m.minimal fewer goods (omega (arith, ints)) i h inside in
    let gone : fewer i ≡ false = ap (λ (b : Bool). cond b false (s i)) (eq-eqb i i refl) in
    false≢true (sym gone ∙ back)
  where
    null : (a b : Bool) → b ≡ false → cond a false b ≡ false
    null true b e = refl
    null false b e = e
