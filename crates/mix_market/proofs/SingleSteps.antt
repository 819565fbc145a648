-- The least point of a function that keeps the local law, told by single steps: no set of goods betters it where its prices rise, and each set that may
-- fall makes the function rise.
use Rattle.std.proofs.Common.{◌≡◌, ◌↔◌, ℕ, zero, suc, ◌+◌, ◌^◌, ◌≤◌, ◌<◌, ◌⊎◌, inl, inr, Bool, true, false, ℤ, pos, ◌+ℤ◌, ◌-ℤ◌, ◌≤ℤ◌, ◌<ℤ◌, refl, arith, sym, ap, ◌∙◌, ⊎_elim, eq-or-lt_of_le, IsTrue, eqb, subst}
use Rattle.std.proofs.lemmas.Int.{ints, clamps}
use Rattle.std.proofs.lemmas.Bool.{false≢true}
use Rattle.std.proofs.lemmas.Nat.{pow_pos}
use Rattle.std.proofs.lemmas.Nat.Bits.{bit_at-zero}
use Rattle.mix_num.specs.Vectors.{Vector, Choices, bit, plus, minus, members}
use Rattle.mix_num.proofs.Masks.{mask_of, mask_below, mask_members, same_members}
use Rattle.mix_law.specs.Members.{KeepsLocal}
use Rattle.mix_law.proofs.Lattice.{lattice, lesser, greater}
use Rattle.mix_law.proofs.Exchanges.{AtMost, exchange_at, set_at, set_at_greatest, bound, lowered_at, raised_at, stays_above}
use Rattle.mix_market.specs.Lyapunov.{IsBelow, IsLeastPoint}
use Rattle.mix_market.specs.Steepest.{IsGoods}
use Rattle.mix_market.specs.Lowerings.{RisesWhereFallen}

-- some choice below m passes the test, or none does
pub some_or_none : (m : ℕ) (s : Choices) → ((k : ℕ) × (k < m) × (s k ≡ true)) ⊎ ((k : ℕ) → k < m → s k ≡ false)
some_or_none zero s = inr (λ k l. absurd (omega arith))
some_or_none (suc m) s = at (s m) refl (some_or_none m s)
  where
    at : (b : Bool) → s m ≡ b → ((k : ℕ) × (k < m) × (s k ≡ true)) ⊎ ((k : ℕ) → k < m → s k ≡ false) → ((k : ℕ) × (k < suc m) × (s k ≡ true)) ⊎ ((k : ℕ) → k < suc m → s k ≡ false)
    at true e r = inl (m, omega arith, e)
    at false e (inl r) = inl (r.0, omega (arith, r.1), r.2)
    at false e (inr r) = inr (λ k l. ⊎_elim (λ (q : k ≡ m). ap s q ∙ e) (λ (q : k < m). r k q) (eq-or-lt_of_le (let h : k ≤ m = omega arith in h)))

-- a set of goods leaves the null choice's price
pub same_null : (a : ℤ) (b : Bool) → b ≡ false → a +ℤ bit b ≡ a
same_null a true e = absurd (false≢true (sym e))
same_null a false e = omega (arith, ints)

less_null : (a : ℤ) (b : Bool) → b ≡ false → a -ℤ bit b ≡ a
less_null a true e = absurd (false≢true (sym e))
less_null a false e = omega (arith, ints)

-- a raise of some prices keeps what lies below
pub higher : (a b : ℤ) (s : Bool) → a ≤ℤ b → a ≤ℤ (b +ℤ bit s)
higher a b true h = omega (arith, ints)
higher a b false h = omega (arith, ints)

-- one raise makes a difference greater by one at most
one_further : (a b : ℤ) (t : ℕ) (s : Bool) → (b -ℤ a) ≤ℤ pos t → ((b +ℤ bit s) -ℤ a) ≤ℤ pos (suc t)
one_further a b t true l = omega (arith, ints)
one_further a b t false l = omega (arith, ints)

-- a price above its start may fall by one
lower : (a b : ℤ) (s : Bool) → a ≤ℤ b → (s ≡ true → a <ℤ b) → a ≤ℤ (b -ℤ bit s)
lower a b true h f = let g = f refl in omega (arith, ints)
lower a b false h f = omega (arith, ints)

smaller : (d : ℤ) (h : ℕ) (s : Bool) → d ≤ℤ pos (suc h) → s ≡ false → (IsTrue s ↔ (d ≡ pos (suc h))) → d ≤ℤ pos h
smaller d h s l e m = let q : (d ≡ pos (suc h)) → ⊥ = λ r. false≢true (sym e ∙ m.1 r) in omega (arith, ints)

none_in_zero : (k : ℕ) → members 0 k ≡ false
none_in_zero k = ap (λ (v : ℕ). eqb v 1) (bit_at-zero k)

module _ {n : ℕ} {l : Vector → ℤ} {w : ℤ} (c : KeepsLocal n l w) (start p : Vector) (null : p 0 ≡ pos 0) (above : IsBelow n start p) where
  -- among the points at or above p it is enough that no raised set of goods betters it
  up_from : ((s : Choices) → IsGoods s → l p ≤ℤ l (plus p s)) → (h : ℕ) (q : Vector) → q 0 ≡ pos 0 → AtMost n q p (pos h) → IsBelow n p q → l p ≤ℤ l q
  up_from g zero q z d a =
      let e = c.reads p q (λ k i. let u = d k i in let v = a k i in omega (arith, ints)) in
      omega (arith, ints)
  up_from g (suc h) q z d a =
      let s = set_at q p (pos (suc h)) in
      let i = set_at_greatest n q p (pos (suc h)) d in
      let e = exchange_at c q p (pos (suc h)) s i in
      let o : s 0 ≡ false = grind (arith, ints) in
      let z2 : minus q s 0 ≡ pos 0 = less_null (q 0) (s 0) o ∙ z in
      let r = up_from g h (minus q s) z2 (λ k j. lowered_at (q k) (p k) h (s k) (d k j) (i.members k j)) (λ k j. stays_above (q k) (p k) h (s k) (a k j) (i.members k j)) in
      let u = g s o in
      omega (arith, ints)

  -- among the points at or above the start, that no set of goods that may fall does either
  from_steps : ((s : Choices) → IsGoods s → l p ≤ℤ l (plus p s)) → ((s : Choices) → IsGoods s → ((k : ℕ) → k ≤ n → s k ≡ true → start k <ℤ p k) → l p ≤ℤ l (minus p s))
      → (t h : ℕ) (q : Vector) → q 0 ≡ pos 0 → AtMost n q p (pos t) → AtMost n p q (pos h) → IsBelow n start q → l p ≤ℤ l q
  from_steps up down t zero q z b d a = up_from up t q z b (λ k i. let u = d k i in omega (arith, ints))
  from_steps up down t (suc h) q z b d a =
      let s = set_at p q (pos (suc h)) in
      let i = set_at_greatest n p q (pos (suc h)) d in
      let e = exchange_at c p q (pos (suc h)) s i in
      let o : s 0 ≡ false = grind (arith, ints) in
      let z2 : plus q s 0 ≡ pos 0 = same_null (q 0) (s 0) o ∙ z in
      let r = from_steps up down (suc t) h (plus q s) z2 (λ k j. one_further (p k) (q k) t (s k) (b k j)) (λ k j. raised_at (p k) (q k) h (s k) (d k j) (i.members k j)) (λ k j. higher (start k) (q k) (s k) (a k j)) in
      let u = down s o (λ k j m. let g = (i.members k j).0 m in let v = a k j in omega (arith, ints)) in
      omega (arith, ints)

  -- so p is least
  pub least_of_steps : ((s : Choices) → IsGoods s → l p ≤ℤ l (plus p s)) → ((s : Choices) → IsGoods s → ((k : ℕ) → k ≤ n → s k ≡ true → start k <ℤ p k) → l p ≤ℤ l (minus p s))
      → (q : Vector) → q 0 ≡ pos 0 → IsBelow n start q → l p ≤ℤ l q
  least_of_steps up down q z a =
      let t = bound (λ k. q k -ℤ p k) (suc n) in
      let h = bound (λ k. p k -ℤ q k) (suc n) in
      from_steps up down t.0 h.0 q z (λ k i. t.1 k (omega arith)) (λ k i. h.1 k (omega arith)) a

  -- a set given by its test that may fall, as a number
  falls_as_number : RisesWhereFallen n l start p → (s : Choices) → IsGoods s → ((k : ℕ) → k ≤ n → s k ≡ true → start k <ℤ p k) → (k : ℕ) → k < suc n → s k ≡ true → l p <ℤ l (minus p s)
  falls_as_number rises s o f k i m =
      let set : ℕ = mask_of (suc n) s in
      let is : (j : ℕ) → j ≤ n → members set j ≡ s j = λ j g. mask_members (suc n) s j (omega arith) in
      let e = c.reads (minus p (members set)) (minus p s) (λ j g. ap (λ (b : Bool). p j -ℤ bit b) (is j g)) in
      let below : set < 2 ^ (n + 1) = let q = mask_below (suc n) s in let u : suc n ≡ n + 1 = omega arith in subst (λ (v : ℕ). set < 2 ^ v) u q in
      let some : 0 < set = ⊎_elim
      (λ (q : 0 ≡ set). absurd (false≢true (sym (none_in_zero k) ∙ ap (λ (v : ℕ). members v k) q ∙ is k (omega arith) ∙ m)))
      (λ (q : 0 < set). q) (eq-or-lt_of_le (let h : 0 ≤ set = omega arith in h)) in
      let r = rises set (record { goods = (below, is 0 (omega arith) ∙ o); some = some; above = λ j g q. f j g (sym (is j g) ∙ q) }) in
      omega (arith, ints)

  module _ (rises : RisesWhereFallen n l start p) where
    -- no set that may fall betters p
    pub down_of_rises : (s : Choices) → IsGoods s → ((k : ℕ) → k ≤ n → s k ≡ true → start k <ℤ p k) → l p ≤ℤ l (minus p s)
    down_of_rises s o f = ⊎_elim
        (λ (r : (k : ℕ) × (k < suc n) × (s k ≡ true)). let a = falls_as_number rises s o f r.0 r.1 r.2 in omega (arith, ints))
        (λ (r : (k : ℕ) → k < suc n → s k ≡ false). let e = c.reads p (minus p s) (λ k i. sym (less_null (p k) (s k) (r k (omega arith)))) in omega (arith, ints))
        (some_or_none (suc n) s)

    module _ (least : (q : Vector) → q 0 ≡ pos 0 → IsBelow n start q → l p ≤ℤ l q) where
      -- another point where l is least, and at or below p, is p
      fallen : (h : ℕ) (m : Vector) → m 0 ≡ pos 0 → IsBelow n start m → l m ≤ℤ l p → AtMost n p m (pos h) → IsBelow n p m
      fallen zero m z a e d = λ k i. let u = d k i in omega (arith, ints)
      fallen (suc h) m z a e d =
          let s = set_at p m (pos (suc h)) in
          let g = set_at_greatest n p m (pos (suc h)) d in
          let x = exchange_at c p m (pos (suc h)) s g in
          let o : s 0 ≡ false = grind (arith, ints) in
          let u = least (plus m s) (same_null (m 0) (s 0) o ∙ z) (λ k i. higher (start k) (m k) (s k) (a k i)) in
          ⊎_elim
          (λ (r : (k : ℕ) × (k < suc n) × (s k ≡ true)).
          let v = falls_as_number rises s o (λ k i t. let y = (g.members k i).0 t in let b = a k i in omega (arith, ints)) r.0 r.1 r.2 in
          absurd (omega (arith, ints)))
          (λ (r : (k : ℕ) → k < suc n → s k ≡ false). fallen h m z a e (λ k i. smaller (p k -ℤ m k) h (s k) (d k i) (r k (omega arith)) (g.members k i)))
          (some_or_none (suc n) s)

      pub lowest_of_rises : (q : Vector) → q 0 ≡ pos 0 → IsBelow n start q → l q ≡ l p → IsBelow n p q
      lowest_of_rises q z a e =
          let t = lattice c p q in
          let u = least (greater p q) (omega (arith, ints, clamps, null, z)) (λ k i. let v = above k i in omega (arith, ints, clamps)) in
          let b = bound (λ k. p k -ℤ lesser p q k) (suc n) in
          let f = fallen b.0 (lesser p q) (omega (arith, ints, clamps, null, z)) (λ k i. let v = above k i in let y = a k i in omega (arith, ints, clamps)) (omega (arith, ints)) (λ k i. b.1 k (omega arith)) in
          λ k i. let v = f k i in omega (arith, ints, clamps)

  -- at the least point, a set that may fall makes l rise
  pub rises_at_least : IsLeastPoint n l start p → RisesWhereFallen n l start p
  rises_at_least r set f =
      let s = members set in
      let z : minus p s 0 ≡ pos 0 = less_null (p 0) (s 0) f.goods.1 ∙ null in
      let a : IsBelow n start (minus p s) = λ k i. lower (start k) (p k) (s k) (above k i) (f.above k i) in
      let u = r.least (minus p s) z a in
      let differ : (l (minus p s) ≡ l p) → ⊥ = λ (e : l (minus p s) ≡ l p). ⊎_elim
      (λ (v : (k : ℕ) × (k < suc n) × (s k ≡ true)). fall_not (p v.0) (s v.0) v.2 (r.lowest (minus p s) z a e v.0 (omega (arith, v.1))))
      (λ (v : (k : ℕ) → k < suc n → s k ≡ false). nothing set f.goods.0 f.some v)
      (some_or_none (suc n) s) in
      omega (arith, ints)
    where
      fall_not : (a : ℤ) (b : Bool) → b ≡ true → a ≤ℤ (a -ℤ bit b) → ⊥
      fall_not a true e h = omega (arith, ints)
      fall_not a false e h = absurd (false≢true e)

      nothing : (set : ℕ) → set < 2 ^ (n + 1) → 0 < set → ((k : ℕ) → k < suc n → members set k ≡ false) → ⊥
      nothing set l g h =
          let below : set < 2 ^ suc n = let u : n + 1 ≡ suc n = omega arith in subst (λ (v : ℕ). set < 2 ^ v) u l in
          let e : set ≡ 0 = same_members (suc n) set 0 below (pow_pos (suc n)) (λ k i. h k i ∙ sym (none_in_zero k)) in
          omega (arith, e, g)

  -- leastness by lowering: a point with the least value is the least point exactly where each set that may fall makes the function rise
  pub least_by_lowering : ((q : Vector) → q 0 ≡ pos 0 → IsBelow n start q → l p ≤ℤ l q) → IsLeastPoint n l start p ↔ RisesWhereFallen n l start p
  least_by_lowering least = (rises_at_least, λ rises. record { above = above; least = least; lowest = lowest_of_rises rises least })

  -- the least point by single steps alone
  pub least_point_of_steps : ((s : Choices) → IsGoods s → l p ≤ℤ l (plus p s)) → RisesWhereFallen n l start p → IsLeastPoint n l start p
  least_point_of_steps up rises =
      let least = least_of_steps up (down_of_rises rises) in
      record { above = above; least = least; lowest = lowest_of_rises rises least }
