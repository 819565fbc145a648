-- A rise by several units along a set on which nothing changes.
use Rattle.std.proofs.Common.{◌≡◌, ℕ, zero, suc, ◌≤◌, ◌<◌, Bool, true, false, ℤ, pos, ◌+ℤ◌, ◌-ℤ◌, ◌*ℤ◌, ◌≤ℤ◌, refl, arith, sym, ap, ◌∙◌, cond}
use Rattle.std.proofs.lemmas.Int.{ints, clamps}
use Rattle.std.proofs.lemmas.Bool.{false≢true}
use Rattle.mix_num.specs.Vectors.{Vector, Choices, bit, ray}
use Rattle.mix_num.specs.Moves.{raised}
use Rattle.mix_law.specs.Members.{KeepsLocal}
use Rattle.mix_law.proofs.Exchanges.{AtMost}
use Rattle.mix_law.proofs.Lattice.{over, over_is}
use Rattle.mix_market.specs.Lyapunov.{IsLeastPoint}
use Rattle.mix_market.specs.Steepest.{slope_of}
use Rattle.mix_range.specs.HighPoints.{IsLargestRise, IsAsLow, IsGreatestAsLow}
use Rattle.mix_range.proofs.HighPoints.{rise_as_low, rise_counts}

higher : (a b by : ℤ) (s : Bool) → pos 1 ≤ℤ by → a ≤ℤ b → a ≤ℤ (b +ℤ cond s by (pos 0))
higher a b by true g h = omega (arith, ints)
higher a b by false g h = omega (arith, ints)

within : (a top by : ℤ) (s : Bool) → a ≤ℤ top → (s ≡ true → (a +ℤ by) ≤ℤ top) → (a +ℤ cond s by (pos 0)) ≤ℤ top
within a top by true h g = g refl
within a top by false h g = omega (arith, ints)

further : (a by : ℤ) (s : Bool) → pos 1 ≤ℤ by → (a +ℤ bit s) ≤ℤ (a +ℤ cond s by (pos 0))
further a by true h = omega (arith, ints)
further a by false h = omega (arith, ints)

null_kept : (a by : ℤ) (s : Bool) → a ≡ pos 0 → s ≡ false → a +ℤ cond s by (pos 0) ≡ pos 0
null_kept a by true e g = absurd (false≢true (sym g))
null_kept a by false e g = omega (arith, ints)

module _ {n : ℕ} {l : Vector → ℤ} {w : ℤ} (c : KeepsLocal n l w) (floor ceiling low : Vector) (least : IsLeastPoint n l floor low) (p : Vector) (own : IsAsLow n l floor ceiling low p) (s : Choices) (f : IsLargestRise n l ceiling p s) (by : ℤ) (some : pos 1 ≤ℤ by) where
  -- over steps that all have the slope of the first, prices stay as low
  pub long_as_low : ((m : ℕ) → pos m ≤ℤ by → l (ray p m s) ≡ l p +ℤ (pos m *ℤ slope_of l p s)) → ((k : ℕ) → k ≤ n → s k ≡ true → (p k +ℤ by) ≤ℤ ceiling k) → IsAsLow n l floor ceiling low (raised p s by)
  long_as_low linear under =
      let one = rise_as_low c floor ceiling low least p own s f in
      let o = over_is by in
      let is : by ≡ pos (over by) = omega (arith, ints, clamps) in
      let there = linear (over by) (omega (arith, ints)) in
      let before = own.same in
      let after = one.same in
      let level : slope_of l p s ≡ pos 0 = omega (arith, ints) in
      let product = ap (λ (z : ℤ). pos (over by) *ℤ z) level in
      let same = ap (λ (z : ℤ). l (raised p s z)) is in
      record {
        null = null_kept (p 0) by (s 0) own.null f.may.goods;
        above = λ k i. higher (floor k) (p k) by (s k) some (own.above k i);
        below = λ k i. within (p k) (ceiling k) by (s k) (own.below k i) (under k i);
        same = omega (arith, ints);
      }

  -- and come nearer to the greatest of them by one at least
  pub long_counts : (q : Vector) → IsGreatestAsLow n l floor ceiling low q → (((k : ℕ) → k ≤ n → s k ≡ false) → ⊥) → (v : ℤ) → AtMost n q p v → AtMost n q (raised p s by) (v -ℤ pos 1)
  long_counts q top any v d k i =
      let u = rise_counts c floor ceiling low least p own s f q top any v d k i in
      let b = further (p k) by (s k) some in
      omega (arith, ints)

-- what is said of the goods of a set, of all choices in it
pub below_goods : (n : ℕ) (p top : Vector) (s : Choices) (by : ℤ) → s 0 ≡ false → ((k : ℕ) → k < n → s (suc k) ≡ true → (p (suc k) +ℤ by) ≤ℤ top (suc k)) → (k : ℕ) → k ≤ n → s k ≡ true → (p k +ℤ by) ≤ℤ top k
below_goods n p top s by o h zero i e = absurd (false≢true (sym o ∙ e))
below_goods n p top s by o h (suc k) i e = h k (omega arith) e
