-- Prices within 1,000,000 that move by several units.
use Rattle.std.proofs.Common.{◌≡◌, ℕ, zero, suc, ◌≤◌, ◌<◌, Bool, true, false, cond, List, length, get_or, ℤ, pos, ◌+ℤ◌, ◌≤ℤ◌, refl, arith, ap, ap₂}
use Rattle.std.proofs.lemmas.Int.{ints, clamps}
use Rattle.std.proofs.lemmas.List.{get_or_default}
use Rattle.mix_num.specs.Vectors.{Vector, Choices, ray, with_null, Agree}
use Rattle.mix_num.specs.Ranges.{AreWithin, Lies}
use Rattle.mix_num.specs.Moves.{AreEntries, raised}
use Rattle.mix_law.proofs.Lattice.{over, over_is}
use Rattle.mix_law.specs.declared.convex.Convex.{Ghosts}
use Rattle.mix_market.specs.declared.market.Market.{Market}
use Rattle.mix_market.specs.Markets.{goods_of, lyapunov_of}
use Rattle.mix_market.specs.Steepest.{IsMinimalSteepest, slope_of}
use Rattle.mix_market.proofs.MarketFacts.{market_keeps}
use Rattle.mix_step.proofs.Bounds.{rises_low}
use Rattle.mix_step.proofs.LongRises.{IsLinear}
use Rattle.mix_step.proofs.Straights.{IsStraight, steepest_along}

-- no good of a set that rises in a straight stretch passes 1,000,000
module _ {D : Type 0} {g : Ghosts D} (market : Market D g) where
  pub stretch_low : (p : Vector) (s : Choices) (slope : ℤ) (m : ℕ) → p 0 ≡ pos 0 → 1 ≤ m → IsMinimalSteepest (goods_of market) (lyapunov_of market) p s → IsStraight (lyapunov_of market) p s slope m
      → (k : ℕ) → k < goods_of market → s (suc k) ≡ true → (p (suc k) +ℤ pos m) ≤ℤ pos 1000000
  stretch_low p s slope zero null some t h k i inside = absurd (omega arith)
  stretch_low p s slope (suc m) null some t h k i inside =
      let last = steepest_along (market_keeps market) p s slope (suc m) t h m (omega arith) in
      let zeroth : ray p m s 0 ≡ pos 0 = ap₂ (λ (u : ℤ) (b : Bool). u +ℤ cond b (pos m) (pos 0)) null t.goods in
      let low = rises_low market (ray p m s) s zeroth last k i inside in
      let own = ap (λ (b : Bool). p (suc k) +ℤ cond b (pos m) (pos 0)) inside in
      omega (arith, ints)

  -- nor over a reach
  pub far_low : (p : Vector) (s : Choices) (by : ℤ) → p 0 ≡ pos 0 → pos 1 ≤ℤ by → IsMinimalSteepest (goods_of market) (lyapunov_of market) p s → IsLinear (lyapunov_of market) p s by
      → (k : ℕ) → k < goods_of market → s (suc k) ≡ true → (p (suc k) +ℤ by) ≤ℤ pos 1000000
  far_low p s by null some t linear k i inside =
      let o = over_is by in
      let is : by ≡ pos (over by) = omega (arith, ints, clamps) in
      let low = stretch_low p s (slope_of (lyapunov_of market) p s) (over by) null (omega (arith, ints, clamps)) t (λ j h. linear j (omega (arith, ints))) k i inside in
      omega (arith, ints)

-- prices within 1,000,000 that rise by no more than leads there stay within it
pub moved_within : (n : ℕ) (old new : List ℤ) (s : Choices) (by : ℤ) → pos 0 ≤ℤ by → AreWithin 1000000 n old → length new ≡ length old → Agree (length old) (with_null new) (raised (with_null old) s by) → ((k : ℕ) → k < n → s (suc k) ≡ true → (with_null old (suc k) +ℤ by) ≤ℤ pos 1000000) → AreWithin 1000000 n new
moved_within n old new s by some w count same low = (
  omega arith,
  λ k d h.
      let at_zero = get_or_default new k d (pos 0) h in
      let inside : k < length old = omega arith in
      let range = w.1 k (pos 0) inside in
      let now = same (suc k) inside in
      let b = moved (get_or old k (pos 0)) (s (suc k)) range (low k (omega arith)) in
      (omega (arith, ints), omega (arith, ints)),
)
  where
    moved : (a : ℤ) (b : Bool) → Lies 1000000 a → (b ≡ true → (a +ℤ by) ≤ℤ pos 1000000) → Lies 1000000 (a +ℤ cond b by (pos 0))
    moved a true l h = let below = h refl in (omega (arith, ints), omega (arith, ints))
    moved a false l h = (omega (arith, ints), omega (arith, ints))

-- and may be raised
pub may_rise : (n : ℕ) (old : List ℤ) (s : Choices) (by : ℤ) → pos 0 ≤ℤ by → AreWithin 1000000 n old → s 0 ≡ false → ((k : ℕ) → k < n → s (suc k) ≡ true → (with_null old (suc k) +ℤ by) ≤ℤ pos 1000000) → AreEntries n (raised (with_null old) s by)
may_rise n old s by some w null low zero i = let e = ap (λ (b : Bool). pos 0 +ℤ cond b by (pos 0)) null in (omega (arith, ints), omega (arith, ints))
may_rise n old s by some w null low (suc k) i =
    let range = w.1 k (pos 0) (omega arith) in
    moved (get_or old k (pos 0)) (s (suc k)) range (low k (omega arith))
  where
    moved : (a : ℤ) (b : Bool) → Lies 1000000 a → (b ≡ true → (a +ℤ by) ≤ℤ pos 1000000) → Lies 4000000 (a +ℤ cond b by (pos 0))
    moved a true l h = let below = h refl in (omega (arith, ints), omega (arith, ints))
    moved a false l h = (omega (arith, ints), omega (arith, ints))

-- prices within 1,000,000 have room for a step, and may move
pub room_of : (n : ℕ) (p : List ℤ) → AreWithin 1000000 n p → AreWithin 3999999 n p
room_of n p w = (w.0, λ k d h. let r = w.1 k d h in (omega (arith, ints, r.0), omega (arith, ints, r.1)))

pub may_move : (n : ℕ) (p : List ℤ) → AreWithin 1000000 n p → AreWithin 4000000 (length p) p
may_move n p w = (refl, λ k d h. let r = w.1 k d h in (omega (arith, ints, r.0), omega (arith, ints, r.1)))
