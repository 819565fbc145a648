-- A largest fall taken several times at once, for as long as its slope is the same.
use Rattle.std.proofs.Common.{◌≡◌, ℕ, zero, suc, ◌≤◌, ◌<◌, ◌-◌, Bool, true, false, List, length, get_or, ℤ, pos, ◌+ℤ◌, ◌-ℤ◌, ◌*ℤ◌, ◌≤ℤ◌, ◌<ℤ◌, refl, arith, sym, ap, ◌∙◌, cond, IsTrue, ◌↔◌}
use Rattle.std.proofs.lemmas.Int.{ints, clamps}
use Rattle.std.proofs.lemmas.Bool.{false≢true}
use Rattle.std.proofs.lemmas.List.{get_or_default}
use Rattle.std.proofs.Math.IntN.{zero-*ℤ}
use Rattle.std.specs.Int.{int_min}
use Rattle.mix_num.specs.Vectors.{Vector, Choices, bit, plus, minus, ray, with_null, Agree}
use Rattle.mix_num.specs.Ranges.{AreWithin, Lies}
use Rattle.mix_num.specs.Moves.{AreEntries, lowered}
use Rattle.mix_num.proofs.Equalities.{int_eq_is}
use Rattle.mix_num.proofs.Products.{*ℤ-sum}
use Rattle.mix_law.specs.Members.{KeepsLocal}
use Rattle.mix_law.proofs.Exchanges.{AtMost, exchange_at, raised_at, set_at, set_at_greatest}
use Rattle.mix_law.proofs.Lattice.{lattice, lesser, greater, over, over_is}
use Rattle.mix_market.specs.Lyapunov.{IsBelow, IsLeastPoint}
use Rattle.mix_market.specs.LargestFalls.{IsLargestFall, IsLeastAbove, MayFall}
use Rattle.mix_market.specs.Steepest.{slope_down, slope_of}
use Rattle.mix_step.proofs.LargestFalls.{fall_counts}
use Rattle.mix_step.proofs.LongRises.{IsLinear}
use Rattle.mix_step.proofs.Rooms.{count, depth, depth-lowered}
use Rattle.mix_step.proofs.Straights.{times_next}
use Rattle.mix_fall.specs.LongFalls.{IsLongFall}

null_raised : (a : ℤ) (s : Bool) → a ≡ pos 0 → s ≡ false → a +ℤ bit s ≡ pos 0
null_raised a true e g = absurd (false≢true (sym g))
null_raised a false e g = omega (arith, ints)

far_null : (p r : ℤ) (h : ℕ) (f : Bool) → p ≡ pos 0 → r ≡ pos 0 → (IsTrue f ↔ (p -ℤ r ≡ pos (suc h))) → f ≡ false
far_null p r h true e o g = let q = g.0 refl in absurd (omega (arith, ints))
far_null p r h false e o g = refl

far_over : (low p r : ℤ) (h : ℕ) (f : Bool) → low ≤ℤ r → (IsTrue f ↔ (p -ℤ r ≡ pos (suc h))) → f ≡ true → low <ℤ p
far_over low p r h true l g e = let q = g.0 refl in omega (arith, ints)
far_over low p r h false l g e = absurd (false≢true e)

raised_below : (p r : ℤ) (h : ℕ) (f : Bool) → r ≤ℤ p → (IsTrue f ↔ (p -ℤ r ≡ pos (suc h))) → (r +ℤ bit f) ≤ℤ p
raised_below p r h true l g = let q = g.0 refl in omega (arith, ints)
raised_below p r h false l g = omega (arith, ints)

raised_over : (low r : ℤ) (f : Bool) → low ≤ℤ r → low ≤ℤ (r +ℤ bit f)
raised_over low r true l = omega (arith, ints)
raised_over low r false l = omega (arith, ints)

near_at : (p q by : ℤ) (s : Bool) → pos 1 ≤ℤ by → (p -ℤ cond s by (pos 0)) ≤ℤ q → (p -ℤ int_min p q) ≤ℤ by
near_at p q by true h l = omega (arith, ints, clamps)
near_at p q by false h l = omega (arith, ints, clamps)

less_at : (p f q by : ℤ) (s : Bool) → f ≤ℤ p → f ≤ℤ (p -ℤ cond s by (pos 0)) → (p -ℤ cond s by (pos 0)) ≤ℤ q → f ≤ℤ int_min p q
less_at p f q by s a b l = omega (arith, ints, clamps)

further : (p by : ℤ) (s : Bool) → pos 1 ≤ℤ by → (p -ℤ cond s by (pos 0)) ≤ℤ (p -ℤ bit s)
further p by true h = omega (arith, ints)
further p by false h = omega (arith, ints)

back_up : (p by : ℤ) (s : Bool) → (p -ℤ cond s by (pos 0)) +ℤ cond s by (pos 0) ≡ p
back_up p by s = omega (arith, ints)

back_but_one : (p by : ℤ) (j : ℕ) (s : Bool) → by ≡ pos (suc j) → (p -ℤ cond s by (pos 0)) +ℤ cond s (pos j) (pos 0) ≡ p -ℤ bit s
back_but_one p by j true e = omega (arith, ints)
back_but_one p by j false e = omega (arith, ints)

module _ {n : ℕ} {l : Vector → ℤ} {w : ℤ} (c : KeepsLocal n l w) where
  -- what rises evenly from the end of a fall has fallen evenly
  pub even_fall : (floor p q : Vector) (s : Choices) (by : ℤ) → pos 1 ≤ℤ by → IsBelow n floor (lowered p s by) → Agree n q (lowered p s by) → IsLinear l q s by → IsLongFall n l floor p s by
  even_fall floor p q s by some above same linear =
      let o = over_is by in
      let is : by ≡ pos (suc (over by - 1)) = omega (arith, ints, clamps) in
      record { some = some; above = above; even = at (over by - 1) is }
    where
      at : (j : ℕ) → by ≡ pos (suc j) → l (lowered p s by) ≡ l p +ℤ (by *ℤ slope_down l p s)
      at j e =
          let whole = linear (suc j) (omega (arith, ints)) in
          let most = linear j (omega (arith, ints)) in
          let top = c.reads (ray q (suc j) s) p (λ k i. ap (λ (z : ℤ). z +ℤ cond (s k) (pos (suc j)) (pos 0)) (same k i) ∙ ap (λ (z : ℤ). lowered p s by k +ℤ cond (s k) z (pos 0)) (sym e) ∙ back_up (p k) by (s k)) in
          let next = c.reads (ray q j s) (minus p s) (λ k i. ap (λ (z : ℤ). z +ℤ cond (s k) (pos j) (pos 0)) (same k i) ∙ back_but_one (p k) by j (s k) e) in
          let low = c.reads q (lowered p s by) same in
          let t = times_next j (slope_of l q s) in
          let turned : slope_of l q s +ℤ slope_down l p s ≡ pos 0 = omega (arith, ints) in
          let parts = *ℤ-sum (pos (suc j)) (slope_of l q s) (slope_down l p s) in
          let none = ap (λ (z : ℤ). pos (suc j) *ℤ z) turned in
          let times = ap (λ (z : ℤ). z *ℤ slope_down l p s) e in
          omega (arith, ints)

  module _ (floor p : Vector) (s : Choices) (null : p 0 ≡ pos 0) (f : IsLargestFall n l floor p s) (over_floor : IsBelow n floor p) where
    -- to prices at most so much lower l falls by no more than the steepest slope at each unit
    no_lower : (h : ℕ) (r : Vector) → r 0 ≡ pos 0 → IsBelow n floor r → IsBelow n r p → AtMost n p r (pos h) → (l p +ℤ (pos h *ℤ slope_down l p s)) ≤ℤ l r
    no_lower zero r z a b d =
        let e = c.reads r p (λ k i. let u = b k i in let v = d k i in omega (arith, ints)) in
        let none = zero-*ℤ (slope_down l p s) in
        omega (arith, ints)
    no_lower (suc h) r z a b d =
        let far : Choices = set_at p r (pos (suc h)) in
        let is : (k : ℕ) → IsTrue (far k) ↔ (p k -ℤ r k ≡ pos (suc h)) = λ k. int_eq_is (p k -ℤ r k) (pos (suc h)) in
        let e = exchange_at c p r (pos (suc h)) far (set_at_greatest n p r (pos (suc h)) d) in
        let o : far 0 ≡ false = far_null (p 0) (r 0) h (far 0) null z (is 0) in
        let may : MayFall n floor p far = record { goods = o; above = λ k i q. far_over (floor k) (p k) (r k) h (far k) (a k i) (is k) q } in
        let rest = no_lower h (plus r far) (null_raised (r 0) (far 0) z o)
        (λ k i. raised_over (floor k) (r k) (far k) (a k i))
        (λ k i. raised_below (p k) (r k) h (far k) (b k i) (is k))
        (λ k i. raised_at (p k) (r k) h (far k) (d k i) (is k)) in
        let steep = f.steepest far may in
        let t = times_next h (slope_down l p s) in
        omega (arith, ints)

    module _ (by : ℤ) (long : IsLongFall n l floor p s by) where
      -- so a long fall leads to a point that is least among all above it
      pub long_above : IsLeastAbove n l p → IsLeastAbove n l (lowered p s by)
      long_above up = record {
        least = λ q o h.
            let steps = over_is by in
            let some = long.some in
            let is : by ≡ pos (over by) = omega (arith, ints, clamps) in
            let m = lattice c p q in
            let zeroth : lesser p q 0 ≡ pos 0 = omega (arith, ints, clamps) in
            let zeroth2 : greater p q 0 ≡ pos 0 = omega (arith, ints, clamps) in
            let v = up.least (greater p q) zeroth2 (λ j i. omega (arith, ints, clamps)) in
            let low = no_lower (over by) (lesser p q) zeroth
            (λ k i. less_at (p k) (floor k) (q k) by (s k) (over_floor k i) (long.above k i) (h k i))
            (λ k i. omega (arith, ints, clamps))
            (λ k i. let u = near_at (p k) (q k) by (s k) some (h k i) in omega (arith, ints)) in
            let even = long.even in
            let times = ap (λ (z : ℤ). z *ℤ slope_down l p s) is in
            omega (arith, ints);
      }

      -- and comes nearer to the least point by one at least
      pub long_counts : (a : Vector) → a 0 ≡ pos 0 → IsLeastPoint n l floor a → IsLeastAbove n l p → (((k : ℕ) → k ≤ n → s k ≡ false) → ⊥) → (v : ℤ) → AtMost n p a v → AtMost n (lowered p s by) a (v -ℤ pos 1)
      long_counts a z least up any v d k i =
          let e = fall_counts c floor a z least p s null over_floor up f any v d k i in
          let more = further (p k) by (s k) long.some in
          omega (arith, ints)

-- the lower the prices, the less depth
depth-less : (n : ℕ) (x y floor : Vector) → ((k : ℕ) → k < n → x (suc k) ≤ℤ y (suc k)) → depth n x floor ≤ depth n y floor
depth-less zero x y floor h = omega arith
depth-less (suc n) x y floor h =
    let rest = depth-less n x y floor (λ k l. h k (omega arith)) in
    let one = h n (omega arith) in
    let a = over_is (x (suc n) -ℤ floor (suc n)) in
    let b = over_is (y (suc n) -ℤ floor (suc n)) in
    omega (arith, ints, clamps)

-- a fall by one or more takes some of the depth
pub long_depth : (n : ℕ) (p q floor : Vector) (s : Choices) (by : ℤ) → pos 1 ≤ℤ by → 0 < count n s → ((k : ℕ) → k < n → s (suc k) ≡ true → floor (suc k) <ℤ p (suc k)) → Agree n q (lowered p s by) → depth n q floor < depth n p floor
long_depth n p q floor s by some any high e =
    let one = depth-lowered n p floor s high in
    let more = depth-less n q (minus p s) floor (λ k i. let u = e (suc k) (omega arith) in let v = further (p (suc k)) by (s (suc k)) some in omega (arith, ints)) in
    omega arith

-- prices that have fallen to no less than the floor are within 1,000,000
pub fallen_within : (n : ℕ) (floor old new : List ℤ) (s : Choices) (by : ℤ) → AreWithin 1000000 n floor → AreWithin 1000000 n old → length new ≡ length old → pos 1 ≤ℤ by → Agree n (with_null new) (lowered (with_null old) s by) → IsBelow n (with_null floor) (with_null new) → AreWithin 1000000 n new
fallen_within n floor old new s by f w size some same above = (
  omega arith,
  λ k d h.
      let at_zero = get_or_default new k d (pos 0) h in
      let under : k < length floor = omega arith in
      let inside : k < length old = omega arith in
      let low = f.1 k (pos 0) under in
      let range = w.1 k (pos 0) inside in
      let now = same (suc k) (omega arith) in
      let base = above (suc k) (omega arith) in
      let less = further (get_or old k (pos 0)) by (s (suc k)) some in
      let unit = no_more (get_or old k (pos 0)) (s (suc k)) in
      (omega (arith, ints), omega (arith, ints)),
)
  where
    no_more : (a : ℤ) (b : Bool) → (a -ℤ bit b) ≤ℤ a
    no_more a true = omega (arith, ints)
    no_more a false = omega (arith, ints)

-- prices within 1,000,000 may fall by as much as 2,000,000
pub may_fall : (n : ℕ) (prices : List ℤ) (s : Choices) (by : ℤ) → AreWithin 1000000 n prices → s 0 ≡ false → pos 0 ≤ℤ by → by ≤ℤ pos 2000000 → AreEntries (length prices) (lowered (with_null prices) s by)
may_fall n prices s by w o some most zero h = let e = ap (λ (b : Bool). pos 0 -ℤ cond b by (pos 0)) o in (omega (arith, ints), omega (arith, ints))
may_fall n prices s by w o some most (suc k) h = at (get_or prices k (pos 0)) (s (suc k)) (w.1 k (pos 0) (omega arith))
  where
    at : (a : ℤ) (b : Bool) → Lies 1000000 a → Lies 4000000 (a -ℤ cond b by (pos 0))
    at a true r = (omega (arith, ints), omega (arith, ints))
    at a false r = (omega (arith, ints), omega (arith, ints))

-- and leave room for a step
pub fallen_room : (n : ℕ) (old new : List ℤ) (s : Choices) (by : ℤ) → AreWithin 1000000 n old → length new ≡ length old → pos 0 ≤ℤ by → by ≤ℤ pos 2000000 → Agree (length old) (with_null new) (lowered (with_null old) s by) → AreWithin 3999999 n new
fallen_room n old new s by w size some most same = (
  omega arith,
  λ k d h.
      let at_zero = get_or_default new k d (pos 0) h in
      let inside : k < length old = omega arith in
      let range = w.1 k (pos 0) inside in
      let now = same (suc k) (omega arith) in
      let b = at (get_or old k (pos 0)) (s (suc k)) range in
      (omega (arith, ints), omega (arith, ints)),
)
  where
    at : (a : ℤ) (b : Bool) → Lies 1000000 a → Lies 3000000 (a -ℤ cond b by (pos 0))
    at a true r = (omega (arith, ints), omega (arith, ints))
    at a false r = (omega (arith, ints), omega (arith, ints))

-- what is said of the goods of a set, of all choices: none falls below the floor
pub fallen_above : (n : ℕ) (floor p q : Vector) (s : Choices) (by : ℤ) → s 0 ≡ false → IsBelow n floor p → Agree n q (lowered p s by) → ((k : ℕ) → k < n → s (suc k) ≡ true → floor (suc k) <ℤ q (suc k)) → IsBelow n floor (lowered p s by)
fallen_above n floor p q s by o over same high k i = at k i (s k) refl
  where
    inside : (k : ℕ) → k ≤ n → s k ≡ true → floor k <ℤ q k
    inside zero i e = absurd (false≢true (sym o ∙ e))
    inside (suc k) i e = high k (omega arith) e

    at : (k : ℕ) → k ≤ n → (b : Bool) → s k ≡ b → floor k ≤ℤ (p k -ℤ cond (s k) by (pos 0))
    at k i true e = let u = inside k i e in let v = same k i in omega (arith, ints)
    at k i false e = let u = over k i in let v = ap (λ (b : Bool). p k -ℤ cond b by (pos 0)) e in omega (arith, ints)
