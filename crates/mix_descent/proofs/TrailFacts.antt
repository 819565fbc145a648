-- Long steps one after the other: what they keep, and that one more may follow.
use Rattle.std.proofs.Common.{◌≡◌, ℕ, ◌+◌, ◌≤◌, Bool, true, false, List, [], ◌∷◌, ◌++◌, ℤ, pos, ◌+ℤ◌, ◌-ℤ◌, ◌*ℤ◌, cond, refl, arith, sym, ap, ap₂, ◌∙◌, subst, length}
use Rattle.std.proofs.lemmas.Int.{ints, clamps}
use Rattle.mix_num.specs.Vectors.{Vector, bit, plus, ray, members, Agree}
use Rattle.mix_law.specs.Members.{KeepsLocal}
use Rattle.mix_law.proofs.Lattice.{over, over_is}
use Rattle.mix_descent.specs.Trails.{IsLongStep, AreLongSteps, after}
use Rattle.mix_descent.specs.declared.long_step.LongStep.{LongStep}
use Rattle.mix_step.proofs.Climbs.{IsBestBelow, best_same}
use Rattle.mix_step.proofs.Straights.{IsStraight, same_steepest, straight_before, straight_best, ray_step, ray_start}

-- the length of a long step as a number of steps
pub record IsStretch (l : Vector → ℤ) (p : Vector) (step : LongStep) : Type 0 where
  pub steps : ℕ
  pub some : 1 ≤ steps
  pub is : step.length ≡ pos steps
  pub straight : IsStraight l p (members step.set) step.slope steps

pub no_steps : (n : ℕ) (l : Vector → ℤ) (p q : Vector) → Agree n q p → AreLongSteps n l p [] q
unfolding AreLongSteps
no_steps n l p q e = e

module _ {n : ℕ} {l : Vector → ℤ} {w : ℤ} (c : KeepsLocal n l w) where
  pub stretch : (p : Vector) (step : LongStep) → IsLongStep n l p step → IsStretch l p step
  stretch p step long =
      let s = members step.set in
      let is = long.slope in
      let start = ray_start c p s in
      let one = ray_step c p s 0 in
      let first = c.reads (plus (ray p 0 s) s) (plus p s) (λ k _. ap (λ (z : ℤ). z +ℤ bit (s k)) (at_zero (p k) (s k))) in
      let unit : pos 1 *ℤ step.slope ≡ step.slope = omega (arith, ints) in
      let least = long.greatest 1 (omega (arith, ints)) in
      let o = over_is step.length in
      let same : step.length ≡ pos (over step.length) = omega (arith, ints, clamps) in
      record {
        steps = over step.length;
        some = omega (arith, ints, clamps);
        is = same;
        straight = straight_before c p s step.slope (over step.length) is (subst (λ (z : ℤ). l (λ k. p k +ℤ cond (s k) z (pos 0)) ≡ l p +ℤ (z *ℤ step.slope)) same long.straight);
      }
    where
      at_zero : (a : ℤ) (b : Bool) → a +ℤ cond b (pos 0) (pos 0) ≡ a
      at_zero a true = omega (arith, ints)
      at_zero a false = omega (arith, ints)

  -- what is read at the choices is all that counts
  after_same : (p q : Vector) (step : LongStep) → Agree n p q → Agree n (after p step) (after q step)
  after_same p q step e = λ k i. ap (λ (z : ℤ). z +ℤ cond (members step.set k) step.length (pos 0)) (e k i)

  long_same : (p q : Vector) (step : LongStep) → Agree n p q → IsLongStep n l p step → IsLongStep n l q step
  long_same p q step e long =
      let here = c.reads p q e in
      let there = c.reads (after p step) (after q step) (after_same p q step e) in
      record {
        goods = long.goods;
        some = long.some;
        minimal = same_steepest c p q (members step.set) e long.minimal;
        slope = long.slope ∙ ap₂ (λ (u v : ℤ). u -ℤ v) (c.reads (plus p (members step.set)) (plus q (members step.set)) (λ k i. ap (λ (z : ℤ). z +ℤ bit (members step.set k)) (e k i))) here;
        straight = sym there ∙ long.straight ∙ ap (λ (z : ℤ). z +ℤ (step.length *ℤ step.slope)) here;
        greatest = λ m h. long.greatest m (c.reads (ray p m (members step.set)) (ray q m (members step.set)) (λ k i. ap (λ (z : ℤ). z +ℤ cond (members step.set k) (pos m) (pos 0)) (e k i)) ∙ h ∙ ap (λ (z : ℤ). z +ℤ (pos m *ℤ step.slope)) (sym here));
      }

  -- one long step more
  pub one_more : (p q r : Vector) (steps : List LongStep) (step : LongStep) → AreLongSteps n l p steps q → IsLongStep n l q step → Agree n r (after q step) → AreLongSteps n l p (steps ++ step ∷ []) r
  unfolding AreLongSteps
  one_more p q r [] step way long e = (long_same q p step way long, λ k i. e k i ∙ after_same q p step way k i)
  one_more p q r (first ∷ steps) step way long e = (way.0, one_more (after p first) q r steps step way.1 long e)

  -- a long step leads to a point that is better than all below it
  pub long_best : (start p q : Vector) (step : LongStep) → IsBestBelow n l start p → IsLongStep n l p step → Agree n q (after p step) → IsBestBelow n l start q
  long_best start p q step b long e =
      let s = stretch p step long in
      best_same c start (ray p s.steps (members step.set)) q (λ k i. e k i ∙ ap (λ (z : ℤ). p k +ℤ cond (members step.set k) z (pos 0)) s.is)
      (straight_best c start p (members step.set) step.slope s.steps long.minimal s.straight b s.steps (omega arith))

-- the long steps so far, one counted for each
pub record HasClimbed (n : ℕ) (l : Vector → ℤ) (start here : Vector) (before now : ℕ) : Type 0 where
  pub steps : List LongStep
  pub way : AreLongSteps n l start steps here
  pub counted : now ≡ before + length steps

length-more : {A : Type 0} (xs : List A) (x : A) → length (xs ++ x ∷ []) ≡ length xs + 1
length-more [] x = refl
length-more (y ∷ xs) x = let h = length-more xs x in omega arith

pub climbed_none : (n : ℕ) (l : Vector → ℤ) (start here : Vector) (before : ℕ) → Agree n here start → HasClimbed n l start here before before
climbed_none n l start here before e = record { steps = []; way = no_steps n l start here e; counted = omega arith }

pub climbed_more : {n : ℕ} {l : Vector → ℤ} {w : ℤ} → KeepsLocal n l w → (start here next : Vector) (step : LongStep) (before now more : ℕ) → HasClimbed n l start here before now → IsLongStep n l here step → Agree n next (after here step) → more ≡ now + 1 → HasClimbed n l start next before more
climbed_more c start here next step before now more h long e counted = record {
  steps = h.steps ++ step ∷ [];
  way = one_more c start here next h.steps step h.way long e;
  counted = let a = length-more h.steps step in let b = h.counted in omega arith;
}
