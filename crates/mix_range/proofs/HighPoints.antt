-- Rising among the points that are as low as the least point, up to a ceiling: by the largest set along which nothing changes.
use Rattle.std.proofs.Common.{◌≡◌, ℕ, zero, suc, ◌≤◌, Bool, true, false, ℤ, pos, negsuc, ◌+ℤ◌, ◌-ℤ◌, ◌≤ℤ◌, ◌<ℤ◌, refl, arith, sym, ◌∙◌, cond, IsTrue, ◌↔◌}
use Rattle.std.proofs.lemmas.Int.{ints}
use Rattle.std.proofs.lemmas.Bool.{false≢true}
use Rattle.mix_num.specs.Vectors.{Vector, Choices, bit, plus, minus, either, Agree, members}
use Rattle.mix_num.proofs.Equalities.{int_eq_is}
use Rattle.mix_law.specs.Members.{KeepsLocal}
use Rattle.mix_law.proofs.Exchanges.{AtMost, bound, exchange_at, set_at, set_at_greatest}
use Rattle.mix_market.specs.Lyapunov.{IsBelow, IsLeastPoint}
use Rattle.mix_range.specs.HighPoints.{MayRise, IsLargestRise, IsAsLow, IsGreatestAsLow}
use Rattle.mix_market.proofs.MarketLaws.{slope-none}
use Rattle.mix_step.proofs.Gaps.{nowhere_reached}
use Rattle.mix_step.proofs.Rises.{joined_at, nearer_at, not_null, not_raised, null_kept, null_kept_down, stays_over}
use Rattle.mix_range.proofs.LargestRises.{empty_may_rise}

higher : (a b : ℤ) (s : Bool) → a ≤ℤ b → a ≤ℤ (b +ℤ bit s)
higher a b true h = omega (arith, ints)
higher a b false h = omega (arith, ints)

risen_within : (a top : ℤ) (s : Bool) → a ≤ℤ top → (s ≡ true → a <ℤ top) → (a +ℤ bit s) ≤ℤ top
risen_within a top true h g = let u = g refl in omega (arith, ints)
risen_within a top false h g = omega (arith, ints)

joined_may : (u p top : ℤ) (h : ℕ) (s f : Bool) → u ≤ℤ top → (s ≡ true → p <ℤ top) → (IsTrue f ↔ (u -ℤ (p +ℤ bit s) ≡ pos (suc h))) → cond s true f ≡ true → p <ℤ top
joined_may u p top h true f l m g e = m refl
joined_may u p top h false true l m g e = let q = g.0 refl in omega (arith, ints)
joined_may u p top h false false l m g e = absurd (false≢true e)

none_left : (u p : ℤ) (h : ℕ) (s f : Bool) → (u -ℤ p) ≤ℤ pos (suc h) → (IsTrue f ↔ (u -ℤ (p +ℤ bit s) ≡ pos (suc h))) → (cond s true f ≡ true → s ≡ true) → f ≡ false
none_left u p h s false l g m = refl
none_left u p h true true l g m = let q = g.0 refl in absurd (omega (arith, ints))
none_left u p h false true l g m = absurd (false≢true (m refl))

neither : (a b : Bool) → a ≡ false → b ≡ false → cond a true b ≡ false
neither true b e g = absurd (false≢true (sym e))
neither false b e g = g

no_raise : (a : ℤ) (s : Bool) → s ≡ false → a +ℤ bit s ≡ a
no_raise a true e = absurd (false≢true (sym e))
no_raise a false e = omega (arith, ints)

-- a point with the same prices is as low
pub as_low_same : {n : ℕ} {l : Vector → ℤ} {w : ℤ} → KeepsLocal n l w → (floor ceiling low p q : Vector) → Agree n q p → IsAsLow n l floor ceiling low p → IsAsLow n l floor ceiling low q
as_low_same {n} c floor ceiling low p q e a =
    let z : q 0 ≡ p 0 = e 0 (omega arith) in
    record {
      null = z ∙ a.null;
      above = λ k i. let u = e k i in let v = a.above k i in omega (arith, ints);
      below = λ k i. let u = e k i in let v = a.below k i in omega (arith, ints);
      same = c.reads q p e ∙ a.same;
    }

module _ {n : ℕ} {l : Vector → ℤ} {w : ℤ} (c : KeepsLocal n l w) (floor ceiling low : Vector) (least : IsLeastPoint n l floor low) where
  -- where no entry of the least point is above the ceiling's, it is one of them
  pub low_as_low : low 0 ≡ pos 0 → IsBelow n low ceiling → IsAsLow n l floor ceiling low low
  low_as_low z h = record { null = z; above = least.above; below = h; same = refl }

  module _ (p : Vector) (own : IsAsLow n l floor ceiling low p) (s : Choices) (f : IsLargestRise n l ceiling p s) where
    -- one rise leads to such a point again
    pub rise_as_low : IsAsLow n l floor ceiling low (plus p s)
    rise_as_low =
        let z = null_kept (p 0) (s 0) own.null f.may.goods in
        let above : IsBelow n floor (plus p s) = λ k i. higher (floor k) (p k) (s k) (own.above k i) in
        let empty = f.steepest (members 0) (empty_may_rise n ceiling p) in
        let none = slope-none c p in
        let up = least.least (plus p s) z above in
        let same = own.same in
        record { null = z; above = above; below = λ k i. risen_within (p k) (ceiling k) (s k) (own.below k i) (f.may.below k i); same = omega (arith, ints) }

    -- the rise is taken wherever such a point is farthest above
    pub rise_nearer : (q : Vector) → IsAsLow n l floor ceiling low q → (h : ℕ) → AtMost n q p (pos (suc h)) → AtMost n q (plus p s) (pos h)
    rise_nearer q other h d =
        let x : Vector = plus p s in
        let far : Choices = set_at q x (pos (suc h)) in
        let is : (k : ℕ) → IsTrue (far k) ↔ (q k -ℤ x k ≡ pos (suc h)) = λ k. int_eq_is (q k -ℤ x k) (pos (suc h)) in
        let a : AtMost n q x (pos (suc h)) = λ k i. nearer_at (q k) (p k) (pos (suc h)) (s k) (d k i) in
        let e = exchange_at c q x (pos (suc h)) far (set_at_greatest n q x (pos (suc h)) a) in
        let o : far 0 ≡ false = not_null (q 0) (p 0) h (s 0) (far 0) other.null own.null f.may.goods (is 0) in
        let down = least.least (minus q far) (null_kept_down (q 0) (far 0) other.null o) (λ k i. stays_over (floor k) (q k) (p k) h (s k) (far k) (other.above k i) (own.above k i) (is k)) in
        let joined = c.reads (plus x far) (plus p (either s far)) (λ k i. joined_at (q k) (p k) h (s k) (far k) (d k i) (is k)) in
        let may : MayRise n ceiling p (either s far) = record { goods = neither (s 0) (far 0) f.may.goods o; below = λ k i m. joined_may (q k) (p k) (ceiling k) h (s k) (far k) (other.below k i) (f.may.below k i) (is k) m } in
        let steep = f.steepest (either s far) may in
        let same = other.same in
        let all = f.largest (either s far) may (omega (arith, ints)) in
        nowhere_reached n q x h a (λ k i. none_left (q k) (p k) h (s k) (far k) (d k i) (is k) (all k i))

    -- so a rise that isn't empty takes one from a bound on how far the greatest of them is above
    pub rise_counts : (q : Vector) → IsGreatestAsLow n l floor ceiling low q → (((k : ℕ) → k ≤ n → s k ≡ false) → ⊥) → (v : ℤ) → AtMost n q p v → AtMost n q (plus p s) (v -ℤ pos 1)
    rise_counts q top some v d = at v d
      where
        none : (v : ℤ) → v ≤ℤ pos 0 → AtMost n q p v → ⊥
        none v low d = some (λ k i. not_raised (q k) (p k) v (s k) (d k i) low (top.greatest (plus p s) rise_as_low k i))

        at : (v : ℤ) → AtMost n q p v → AtMost n q (plus p s) (v -ℤ pos 1)
        at (pos zero) d = absurd (none (pos 0) (omega (arith, ints)) d)
        at (pos (suc h)) d = λ k i. let e = rise_nearer q top.own h d k i in omega (arith, ints)
        at (negsuc h) d = absurd (none (negsuc h) (omega (arith, ints)) d)

    -- where the rise is empty, each of them is at or below p
    rest_below : ((k : ℕ) → k ≤ n → s k ≡ false) → (q : Vector) → IsAsLow n l floor ceiling low q → (h : ℕ) → AtMost n q p (pos h) → IsBelow n q p
    rest_below none q other zero d = λ k i. let u = d k i in omega (arith, ints)
    rest_below none q other (suc h) d =
        rest_below none q other h (λ k i. let u = rise_nearer q other h d k i in let v = no_raise (p k) (s k) (none k i) in omega (arith, ints))

    pub rise_ends : ((k : ℕ) → k ≤ n → s k ≡ false) → IsGreatestAsLow n l floor ceiling low p
    rise_ends none = record {
      own = own;
      greatest = λ q other. let d = bound (λ k. q k -ℤ p k) (suc n) in rest_below none q other d.0 (λ k i. d.1 k (omega arith));
    }
