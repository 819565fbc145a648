-- The sets of goods that may rise are a family of which the last of the steepest holds all others.
use Rattle.std.proofs.Common.{◌≡◌, ℕ, ◌+◌, ◌^◌, ◌<◌, Bool, false, eqb, ℤ, ◌+ℤ◌, arith, sym, ap, ◌∙◌, ⊎_elim}
use Rattle.std.proofs.lemmas.Int.{ints}
use Rattle.std.proofs.lemmas.Nat.Bits.{bit_at-zero}
use Rattle.std.proofs.lemmas.Bool.{false≢true}
use Rattle.mix_num.specs.Vectors.{Vector, bit, plus, members}
use Rattle.mix_num.proofs.Masks.{same_members}
use Rattle.mix_law.specs.Members.{KeepsLocal}
use Rattle.mix_law.proofs.Exchanges.{submodular_sets}
use Rattle.mix_market.specs.Steepest.{slope_of}
use Rattle.mix_step.proofs.LargestSets.{IsFamily, IsLast, alike, both_false, both_left, either_cases, either_false, largest_of, steepest_of}
use Rattle.mix_range.specs.HighPoints.{MayRise, IsLargestRise}

module _ {n : ℕ} {l : Vector → ℤ} {w : ℤ} (c : KeepsLocal n l w) (ceiling x : Vector) where
  rises_family : IsFamily n (MayRise n ceiling x) (slope_of l x)
  rises_family = record {
    goods = λ s m. m.goods;
    same = λ s t e m. record { goods = sym (e 0 (omega arith)) ∙ m.goods; below = λ k i h. m.below k i (e k i ∙ h) };
    union = λ s t m q. record { goods = either_false (s 0) (t 0) m.goods q.goods; below = λ k i h. ⊎_elim (λ u. m.below k i u) (λ u. q.below k i u) (either_cases (s k) (t k) h) };
    meet = λ s t m q. record { goods = both_false (s 0) (t 0) m.goods; below = λ k i h. m.below k i (both_left (s k) (t k) h) };
    reads = λ s t e. let same = c.reads (plus x s) (plus x t) (λ k i. ap (λ (b : Bool). x k +ℤ bit b) (e k i)) in omega (arith, ints);
    submodular = λ s t. let u = submodular_sets c x s t in omega (arith, ints);
  }

  -- so the last of the steepest sets is the largest
  pub last_rise : (set : ℕ) (least : ℤ) → IsLast n (MayRise n ceiling x) (slope_of l x) (2 ^ n) set least → IsLargestRise n l ceiling x (members set)
  last_rise set least b = record { may = b.own; steepest = steepest_of rises_family set least b; largest = largest_of rises_family set least b }

-- the empty set may rise
pub empty_may_rise : (n : ℕ) (ceiling x : Vector) → MayRise n ceiling x (members 0)
empty_may_rise n ceiling x = record { goods = nothing 0; below = λ k i h. absurd (false≢true (sym (nothing k) ∙ h)) }
  where
    nothing : (k : ℕ) → members 0 k ≡ false
    nothing k = ap (λ (v : ℕ). eqb v 1) (bit_at-zero k)

-- two largest rises are one
pub one_rise : (n : ℕ) (l : Vector → ℤ) (ceiling x : Vector) (a b : ℕ) → a < 2 ^ (n + 1) → b < 2 ^ (n + 1) → IsLargestRise n l ceiling x (members a) → IsLargestRise n l ceiling x (members b) → a ≡ b
one_rise n l ceiling x a b small_a small_b p q =
    let u = p.steepest (members b) q.may in
    let v = q.steepest (members a) p.may in
    let same : slope_of l x (members b) ≡ slope_of l x (members a) = omega (arith, ints) in
    same_members (n + 1) a b small_a small_b (λ k h. alike (members a k) (members b k) (q.largest (members a) p.may (sym same) k (omega arith)) (p.largest (members b) q.may same k (omega arith)))
