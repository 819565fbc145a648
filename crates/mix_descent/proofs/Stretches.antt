-- A set that rises by one reach after the other while its slope is the same, and that no good of it passes 1,000,000.
use Rattle.std.proofs.Common.{◌≡◌, ℕ, zero, suc, ◌+◌, ◌-◌, ◌≤◌, ◌<◌, Bool, true, false, cond, List, length, ℤ, pos, ◌+ℤ◌, ◌-ℤ◌, ◌*ℤ◌, ◌≤ℤ◌, refl, arith, sym, ap, ap₂, ◌∙◌, subst, ltb}
use Rattle.std.proofs.lemmas.Int.{ints, clamps}
use Rattle.std.proofs.Math.IntN.{zero-*ℤ}
use Rattle.std.proofs.lemmas.Bool.{ltb-true, ltb-false}
use Rattle.mix_num.specs.Vectors.{Vector, Choices, bit, plus, ray, members, with_null, Agree}
use Rattle.mix_num.specs.Ranges.{AreWithin}
use Rattle.mix_num.specs.Moves.{IsSetOfGoods, raised}
use Rattle.mix_num.proofs.Products.{sum-*ℤ}
use Rattle.mix_law.specs.Members.{KeepsLocal}
use Rattle.mix_law.proofs.Lattice.{over, over_is}
use Rattle.mix_law.specs.declared.convex.Convex.{Ghosts}
use Rattle.mix_market.specs.declared.market.Market.{Market}
use Rattle.mix_market.specs.Markets.{goods_of, lyapunov_of}
use Rattle.mix_market.specs.Steepest.{IsMinimalSteepest, slope_of}
use Rattle.mix_market.proofs.MarketFacts.{market_keeps}
use Rattle.mix_descent.specs.Trails.{IsLongStep}
use Rattle.mix_descent.specs.declared.long_step.LongStep.{LongStep}
use Rattle.mix_step.proofs.LongMoves.{stretch_low}
use Rattle.mix_step.proofs.Rooms.{some_good, count}
use Rattle.mix_step.proofs.Straights.{IsStraight, straight_ends, ray_start, ray_step, times_next}

-- here is so many steps along the set from p, the function has risen by the slope at each, and does so at the next
pub record IsOnTheWay (n : ℕ) (l : Vector → ℤ) (p : Vector) (s : Choices) (slope : ℤ) (here : Vector) (length : ℤ) : Type 0 where
  pub taken : ℕ
  pub is : length ≡ pos taken
  pub at : Agree n here (ray p taken s)
  pub straight : IsStraight l p s slope (suc taken)

-- the same, but nothing is said of the next step
pub record HasCome (n : ℕ) (l : Vector → ℤ) (p : Vector) (s : Choices) (slope : ℤ) (here : Vector) (length : ℤ) : Type 0 where
  pub taken : ℕ
  pub some : 1 ≤ taken
  pub is : length ≡ pos taken
  pub at : Agree n here (ray p taken s)
  pub straight : IsStraight l p s slope taken

no_step : (a : ℤ) (b : Bool) → a +ℤ cond b (pos 0) (pos 0) ≡ a
no_step a true = omega (arith, ints)
no_step a false = omega (arith, ints)

two_steps : (a : ℤ) (b : Bool) (t m : ℕ) → (a +ℤ cond b (pos t) (pos 0)) +ℤ cond b (pos m) (pos 0) ≡ a +ℤ cond b (pos (t + m)) (pos 0)
two_steps a true t m = omega (arith, ints)
two_steps a false t m = omega (arith, ints)

module _ {n : ℕ} {l : Vector → ℤ} {w : ℤ} (c : KeepsLocal n l w) where
  -- one more step, where the slope there is the same
  straight_next : (p : Vector) (s : Choices) (slope : ℤ) (m : ℕ) (here : Vector) → Agree n here (ray p m s) → IsStraight l p s slope m → slope_of l here s ≡ slope → IsStraight l p s slope (suc m)
  straight_next p s slope m here a h e j i = at (ltb m j) refl
    where
      at : (b : Bool) → ltb m j ≡ b → l (ray p j s) ≡ l p +ℤ (pos j *ℤ slope)
      at true q =
          let less = ltb-true m j q in
          let last : j ≡ suc m = omega arith in
          let there = ap (λ (v : ℕ). l (ray p v s) -ℤ (pos v *ℤ slope)) last in
          let before = h m (omega arith) in
          let step = ray_step c p s m in
          let same = c.reads here (ray p m s) a in
          let next = c.reads (plus here s) (plus (ray p m s) s) (λ k r. ap (λ (z : ℤ). z +ℤ bit (s k)) (a k r)) in
          let t = times_next m slope in
          omega (arith, ints)
      at false q = let less = ltb-false m j q in h j (omega arith)

  pub way_start : (p : Vector) (s : Choices) (slope : ℤ) (here : Vector) (length : ℤ) → length ≡ pos 0 → Agree n here p → slope ≡ slope_of l p s → IsOnTheWay n l p s slope here length
  way_start p s slope here length z a e =
      let at : Agree n here (ray p 0 s) = λ k i. a k i ∙ sym (no_step (p k) (s k)) in
      record {
        taken = 0;
        is = z;
        at = at;
        straight = straight_next p s slope 0 p (λ k i. sym (no_step (p k) (s k))) (λ j i. none j (omega arith)) (sym e);
      }
    where
      none : (j : ℕ) → j ≡ 0 → l (ray p j s) ≡ l p +ℤ (pos j *ℤ slope)
      none j e = let q = ap (λ (v : ℕ). l (ray p v s) -ℤ (pos v *ℤ slope)) e in let r = ray_start c p s in let z = zero-*ℤ slope in omega (arith, ints)

  -- one reach more
  pub way_reach : (p : Vector) (s : Choices) (slope : ℤ) (here next : Vector) (length reach more : ℤ) → IsOnTheWay n l p s slope here length → pos 1 ≤ℤ reach
      → ((m : ℕ) → pos m ≤ℤ reach → l (ray here m s) ≡ l here +ℤ (pos m *ℤ slope_of l here s)) → Agree n next (raised here s reach) → more ≡ length +ℤ reach → HasCome n l p s slope next more
  way_reach p s slope here next length reach more w some linear a e =
      let t = w.taken in
      let r = over reach in
      let o = over_is reach in
      let same : reach ≡ pos r = omega (arith, ints, clamps) in
      let is = w.is in
      record {
        taken = t + r;
        some = omega (arith, ints, clamps);
        is = omega (arith, ints);
        at = λ k i. a k i ∙ ap₂ (λ (u v : ℤ). u +ℤ cond (s k) v (pos 0)) (w.at k i) same ∙ two_steps (p k) (s k) t r;
        straight = λ j i. at j i (ltb t j) refl;
      }
    where
      own : slope_of l here s ≡ slope
      own =
          let t = w.taken in
          let one = w.straight t (omega arith) in
          let two = w.straight (suc t) (omega arith) in
          let step = ray_step c p s t in
          let same = c.reads here (ray p t s) w.at in
          let next = c.reads (plus here s) (plus (ray p t s) s) (λ k q. ap (λ (z : ℤ). z +ℤ bit (s k)) (w.at k q)) in
          let u = times_next t slope in
          omega (arith, ints)

      at : (j : ℕ) → j ≤ w.taken + over reach → (b : Bool) → ltb w.taken j ≡ b → l (ray p j s) ≡ l p +ℤ (pos j *ℤ slope)
      at j i true q =
          let t = w.taken in
          let less = ltb-true t j q in
          let o = over_is reach in
          let m = j - t in
          let back : t + (j - t) ≡ j = omega arith in
          let there = ap (λ (v : ℕ). l (ray p v s) -ℤ (pos v *ℤ slope)) back in
          let line = linear m (omega (arith, ints, clamps)) in
          let joined = c.reads (ray here m s) (ray p (t + m) s) (λ k q. ap (λ (z : ℤ). z +ℤ cond (s k) (pos m) (pos 0)) (w.at k q) ∙ two_steps (p k) (s k) t m) in
          let first = w.straight t (omega arith) in
          let same = c.reads here (ray p t s) w.at in
          let product = ap (λ (z : ℤ). pos m *ℤ z) own in
          let sum = sum-*ℤ (pos t) (pos m) slope in
          let whole = ap (λ (z : ℤ). z *ℤ slope) (added t m) in
          omega (arith, ints)
        where
          added : (t m : ℕ) → pos t +ℤ pos m ≡ pos (t + m)
          added t m = omega (arith, ints)
      at j i false q = let less = ltb-false w.taken j q in w.straight j (omega arith)

  -- and on, where the slope there is the same
  pub way_on : (p : Vector) (s : Choices) (slope : ℤ) (here : Vector) (length : ℤ) → HasCome n l p s slope here length → slope_of l here s ≡ slope → IsOnTheWay n l p s slope here length
  way_on p s slope here length h e = record {
    taken = h.taken;
    is = h.is;
    at = h.at;
    straight = straight_next p s slope h.taken here h.at h.straight e;
  }

  -- else that was the long step
  pub way_end : (p : Vector) (step : LongStep) (here : Vector) → IsSetOfGoods n step.set → (step.set ≡ 0 → ⊥) → IsMinimalSteepest n l p (members step.set) → step.slope ≡ slope_of l p (members step.set)
      → HasCome n l p (members step.set) step.slope here step.length → (slope_of l here (members step.set) ≡ step.slope → ⊥) → IsLongStep n l p step
  way_end p step here goods some minimal slope h other =
      let s = members step.set in
      let straight = h.straight h.taken (omega arith) in
      record {
        goods = goods;
        some = some;
        minimal = minimal;
        slope = slope;
        straight = subst (λ (z : ℤ). l (raised p s z) ≡ l p +ℤ (z *ℤ step.slope)) (sym h.is) straight;
        greatest = λ m e. at m e (ltb h.taken m) refl;
      }
    where
      last : l (plus (ray p h.taken (members step.set)) (members step.set)) -ℤ l (ray p h.taken (members step.set)) ≡ step.slope → ⊥
      last q = other (ap₂ (λ (u v : ℤ). u -ℤ v) (c.reads (plus here (members step.set)) (plus (ray p h.taken (members step.set)) (members step.set)) (λ k i. ap (λ (z : ℤ). z +ℤ bit (members step.set k)) (h.at k i))) (c.reads here (ray p h.taken (members step.set)) h.at) ∙ q)

      at : (m : ℕ) → l (ray p m (members step.set)) ≡ l p +ℤ (pos m *ℤ step.slope) → (b : Bool) → ltb h.taken m ≡ b → pos m ≤ℤ step.length
      at m e true q = absurd (straight_ends c p (members step.set) step.slope h.taken h.straight slope last m (ltb-true h.taken m q) e)
      at m e false q = let less = ltb-false h.taken m q in let is = h.is in omega (arith, ints)

-- so far the set has risen
pub way_after : (n : ℕ) (l : Vector → ℤ) (p here : Vector) (s : Choices) (slope length : ℤ) → HasCome n l p s slope here length → Agree n here (raised p s length)
way_after n l p here s slope length h k i = h.at k i ∙ ap (λ (z : ℤ). raised p s z k) (sym h.is)

-- a good of a set
record HasGood (n : ℕ) (s : Choices) : Type 0 where
  pub good : ℕ
  pub below : good < n
  pub inside : s (suc good) ≡ true

member_of : (n : ℕ) (s : Choices) → 0 < count n s → HasGood n s
member_of zero s h = absurd (omega arith)
member_of (suc n) s h = at (s (suc n)) refl h (λ i. member_of n s i)
  where
    at : (b : Bool) → s (suc n) ≡ b → 0 < cond b 1 0 + count n s → (0 < count n s → HasGood n s) → HasGood (suc n) s
    at true e i rest = record { good = n; below = omega arith; inside = e }
    at false e i rest = let r = rest (omega arith) in record { good = r.good; below = omega (arith, r.below); inside = r.inside }

-- no good of a set that rises by one reach more passes 1,000,000
module _ {D : Type 0} {g : Ghosts D} (market : Market D g) where
  pub low_from : (p here : Vector) (s : Choices) (slope length reach : ℤ) → p 0 ≡ pos 0 → IsMinimalSteepest (goods_of market) (lyapunov_of market) p s → IsOnTheWay (goods_of market) (lyapunov_of market) p s slope here length → pos 1 ≤ℤ reach
      → ((m : ℕ) → pos m ≤ℤ reach → lyapunov_of market (ray here m s) ≡ lyapunov_of market here +ℤ (pos m *ℤ slope_of (lyapunov_of market) here s))
      → (k : ℕ) → k < goods_of market → s (suc k) ≡ true → (here (suc k) +ℤ reach) ≤ℤ pos 1000000
  low_from p here s slope length reach null t w some linear k i inside =
      let h = way_reach (market_keeps market) p s slope here (raised here s reach) length reach (length +ℤ reach) w some linear (λ j q. refl) refl in
      let low = stretch_low market p s slope h.taken null h.some t h.straight k i inside in
      let a = w.at (suc k) (omega arith) in
      let own = ap (λ (b : Bool). p (suc k) +ℤ cond b (pos w.taken) (pos 0)) inside in
      let u = w.is in
      let v = h.is in
      omega (arith, ints)

  -- so there are at most 2,000,000 steps
  pub far_at_most : (p : List ℤ) (set : ℕ) (slope : ℤ) (m : ℕ) → AreWithin 1000000 (goods_of market) p → IsSetOfGoods (goods_of market) set → (set ≡ 0 → ⊥) → 1 ≤ m → IsMinimalSteepest (goods_of market) (lyapunov_of market) (with_null p) (members set)
      → IsStraight (lyapunov_of market) (with_null p) (members set) slope m → m ≤ 2000000
  far_at_most p set slope m w goods some one t h =
      let k = member_of (goods_of market) (members set) (some_good (goods_of market) set goods some) in
      let low = stretch_low market (with_null p) (members set) slope m refl one t h k.good k.below k.inside in
      let range = w.1 k.good (pos 0) (omega (arith, k.below)) in
      omega (arith, ints)

-- what is left of 2,000,000 steps
pub less_left : (old new reach : ℤ) (t : ℕ) → new ≡ old +ℤ reach → pos 1 ≤ℤ reach → new ≡ pos t → t ≤ 2000000 → over (pos 2000000 -ℤ new) < over (pos 2000000 -ℤ old)
less_left old new reach t e h is l =
    let before = over_is (pos 2000000 -ℤ old) in
    let after = over_is (pos 2000000 -ℤ new) in
    omega (arith, ints, clamps)
