-- A minimal steepest set stays the minimal steepest one for as long as its slope is the same.
use Rattle.std.proofs.Common.{◌≡◌, ℕ, zero, suc, ◌+◌, ◌≤◌, ◌<◌, Bool, true, false, cond, ℤ, pos, ◌+ℤ◌, ◌-ℤ◌, ◌*ℤ◌, ◌≤ℤ◌, refl, arith, sym, ap, ap₂, ◌∙◌, ◌-◌}
use Rattle.std.proofs.lemmas.Int.{ints, clamps}
use Rattle.std.proofs.Math.IntN.{zero-*ℤ}
use Rattle.std.specs.Int.{int_min, int_max}
use Rattle.mix_num.specs.Vectors.{Vector, Choices, bit, plus, ray, shifted, both, either, Agree}
use Rattle.mix_num.proofs.Products.{sum-*ℤ, *ℤ-sum, product_grows}
use Rattle.mix_law.specs.Members.{KeepsLocal}
use Rattle.mix_law.proofs.Lattice.{lattice, lesser, greater}
use Rattle.mix_law.proofs.Midpoint.{slopes_rise}
use Rattle.mix_market.specs.Steepest.{IsGoods, IsMinimalSteepest, slope_of}
use Rattle.mix_step.proofs.Climbs.{IsBestBelow, step_best, best_same}

twice_lesser : (a : ℤ) (s t : Bool) → int_min ((a +ℤ bit s) +ℤ bit t) (a +ℤ pos 1) ≡ a +ℤ bit (cond s true t)
twice_lesser a true true = omega (arith, ints, clamps)
twice_lesser a true false = omega (arith, ints, clamps)
twice_lesser a false true = omega (arith, ints, clamps)
twice_lesser a false false = omega (arith, ints, clamps)

twice_greater : (a : ℤ) (s t : Bool) → int_max ((a +ℤ bit s) +ℤ bit t) (a +ℤ pos 1) ≡ (a +ℤ bit (cond s t false)) +ℤ pos 1
twice_greater a true true = omega (arith, ints, clamps)
twice_greater a true false = omega (arith, ints, clamps)
twice_greater a false true = omega (arith, ints, clamps)
twice_greater a false false = omega (arith, ints, clamps)

both_right : (a b : Bool) → cond a b false ≡ true → b ≡ true
both_right true b e = e
both_right false true e = refl
both_right false false e = e

-- one step more
ray_next : (a : ℤ) (j : ℕ) (b : Bool) → a +ℤ cond b (pos (suc j)) (pos 0) ≡ (a +ℤ cond b (pos j) (pos 0)) +ℤ bit b
ray_next a j true = omega (arith, ints)
ray_next a j false = omega (arith, ints)

ray_none : (a : ℤ) (b : Bool) → a +ℤ cond b (pos 0) (pos 0) ≡ a
ray_none a true = omega (arith, ints)
ray_none a false = omega (arith, ints)

pub times_next : (j : ℕ) (a : ℤ) → pos (suc j) *ℤ a ≡ (pos j *ℤ a) +ℤ a
times_next j a =
    let e = sum-*ℤ (pos j) (pos 1) a in
    let d : pos (suc j) ≡ pos j +ℤ pos 1 = omega (arith, ints) in
    let u = ap (λ (z : ℤ). z *ℤ a) d in
    let one : pos 1 *ℤ a ≡ a = omega (arith, ints) in
    omega (arith, ints)

-- where l rises by the slope at each of the first steps along the set
abbrev pub IsStraight : (Vector → ℤ) → Vector → Choices → ℤ → ℕ → Type 0
IsStraight l x s slope m = (j : ℕ) → j ≤ m → l (ray x j s) ≡ l x +ℤ (pos j *ℤ slope)

module _ {n : ℕ} {l : Vector → ℤ} {w : ℤ} (c : KeepsLocal n l w) where
  -- two sets raised one after the other
  twice : (x : Vector) (s t : Choices) → (l (plus x (either s t)) +ℤ l (plus x (both s t))) ≤ℤ (l (plus (plus x s) t) +ℤ l x)
  twice x s t =
      let far = plus (plus x s) t in
      let near = shifted x (pos 1) in
      let h = lattice c far near in
      let a = c.reads (lesser far near) (plus x (either s t)) (λ k _. twice_lesser (x k) (s k) (t k)) in
      let b = c.reads (greater far near) (shifted (plus x (both s t)) (pos 1)) (λ k _. twice_greater (x k) (s k) (t k)) in
      let p = c.shift x (pos 1) in
      let q = c.shift (plus x (both s t)) (pos 1) in
      omega (arith, ints)

  -- where the slope of the minimal steepest set is the same one step on, it is the minimal steepest set there
  pub still_steepest : (x : Vector) (s : Choices) → IsMinimalSteepest n l x s → slope_of l (plus x s) s ≡ slope_of l x s → IsMinimalSteepest n l (plus x s) s
  still_steepest x s m e = record {
    goods = m.goods;
    steepest = λ t g.
        let h = twice x s t in
        let a = m.steepest (both s t) (both_null t) in
        let b = m.steepest (either s t) (either_null t g) in
        omega (arith, ints);
    minimal = λ t g r k i inside.
        let h = twice x s t in
        let a = m.steepest (both s t) (both_null t) in
        let b = m.steepest (either s t) (either_null t g) in
        both_right (s k) (t k) (m.minimal (both s t) (both_null t) (omega (arith, ints)) k i inside);
  }
    where
      both_null : (t : Choices) → both s t 0 ≡ false
      both_null t = ap (λ (b : Bool). cond b (t 0) false) m.goods

      either_null : (t : Choices) → IsGoods t → either s t 0 ≡ false
      either_null t g = ap (λ (b : Bool). cond b true (t 0)) m.goods ∙ g

  -- what is read there is all that counts
  pub same_steepest : (x y : Vector) (s : Choices) → Agree n x y → IsMinimalSteepest n l x s → IsMinimalSteepest n l y s
  same_steepest x y s e m = record {
    goods = m.goods;
    steepest = λ t g. let a = slope_same s in let b = slope_same t in let h = m.steepest t g in omega (arith, ints);
    minimal = λ t g r. m.minimal t g (slope_same t ∙ r ∙ sym (slope_same s));
  }
    where
      slope_same : (t : Choices) → slope_of l x t ≡ slope_of l y t
      slope_same t = ap₂ (λ (u v : ℤ). u -ℤ v) (c.reads (plus x t) (plus y t) (λ k i. ap (λ (z : ℤ). z +ℤ bit (t k)) (e k i))) (c.reads x y e)

  pub ray_step : (x : Vector) (s : Choices) (j : ℕ) → l (ray x (suc j) s) ≡ l (plus (ray x j s) s)
  ray_step x s j = c.reads (ray x (suc j) s) (plus (ray x j s) s) (λ k _. ray_next (x k) j (s k))

  pub ray_start : (x : Vector) (s : Choices) → l (ray x 0 s) ≡ l x
  ray_start x s = c.reads (ray x 0 s) x (λ k _. ray_none (x k) (s k))

  -- so it is all along a straight stretch, but perhaps at its end
  pub steepest_along : (x : Vector) (s : Choices) (slope : ℤ) (m : ℕ) → IsMinimalSteepest n l x s → IsStraight l x s slope m → (j : ℕ) → j < m → IsMinimalSteepest n l (ray x j s) s
  steepest_along x s slope m t h zero i = same_steepest x (ray x 0 s) s (λ k _. sym (ray_none (x k) (s k))) t
  steepest_along x s slope m t h (suc j) i =
      let before = steepest_along x s slope m t h j (omega arith) in
      let one = h j (omega arith) in
      let two = h (suc j) (omega arith) in
      let three = h (suc (suc j)) (omega arith) in
      let p = times_next j slope in
      let q = times_next (suc j) slope in
      let u = ray_step x s j in
      let v = ray_step x s (suc j) in
      let same = c.reads (plus (ray x (suc j) s) s) (plus (plus (ray x j s) s) s) (λ k _. ap (λ (z : ℤ). z +ℤ bit (s k)) (ray_next (x k) j (s k))) in
      same_steepest (plus (ray x j s) s) (ray x (suc j) s) s (λ k _. sym (ray_next (x k) j (s k)))
      (still_steepest (ray x j s) s before (omega (arith, ints)))

  -- and each point on it is better than all below it
  pub straight_best : (start x : Vector) (s : Choices) (slope : ℤ) (m : ℕ) → IsMinimalSteepest n l x s → IsStraight l x s slope m → IsBestBelow n l start x → (j : ℕ) → j ≤ m → IsBestBelow n l start (ray x j s)
  straight_best start x s slope m t h b zero i = best_same c start x (ray x 0 s) (λ k _. ray_none (x k) (s k)) b
  straight_best start x s slope m t h b (suc j) i =
      let before = straight_best start x s slope m t h b j (omega arith) in
      let steep = steepest_along x s slope m t h j (omega arith) in
      best_same c start (plus (ray x j s) s) (ray x (suc j) s) (λ k _. ray_next (x k) j (s k)) (step_best c start (ray x j s) before s steep)

  -- the slope after some steps is no less than before them
  pub slope_rises : (x : Vector) (s : Choices) (j i k : ℕ) → k ≡ i + j → (l (ray x (suc j) s) -ℤ l (ray x j s)) ≤ℤ (l (ray x (suc k) s) -ℤ l (ray x k s))
  slope_rises x s j zero k e =
      let same : k ≡ j = omega arith in
      let a = ap (λ (v : ℕ). l (ray x (suc v) s) -ℤ l (ray x v s)) same in
      omega (arith, ints)
  slope_rises x s j (suc i) k e =
      let h = slope_rises x s j i (i + j) refl in
      let r = slopes_rise c x s (i + j) in
      let same : k ≡ suc (i + j) = omega arith in
      let a = ap (λ (v : ℕ). l (ray x (suc v) s) -ℤ l (ray x v s)) same in
      omega (arith, ints)

  slope_least : (x : Vector) (s : Choices) (m : ℕ) → (l (ray x 1 s) -ℤ l (ray x 0 s)) ≤ℤ (l (ray x (suc m) s) -ℤ l (ray x m s))
  slope_least x s zero = omega (arith, ints)
  slope_least x s (suc m) =
      let h = slope_least x s m in
      let r = slopes_rise c x s m in
      omega (arith, ints)

  -- so the function rises by that slope at least
  pub rises_more : (x : Vector) (s : Choices) (j i k : ℕ) → k ≡ i + j → (l (ray x j s) +ℤ (pos i *ℤ (l (ray x (suc j) s) -ℤ l (ray x j s)))) ≤ℤ l (ray x k s)
  rises_more x s j zero k e =
      let z = zero-*ℤ (l (ray x (suc j) s) -ℤ l (ray x j s)) in
      let same : k ≡ j = omega arith in
      let a = ap (λ (v : ℕ). l (ray x v s)) same in
      omega (arith, ints)
  rises_more x s j (suc i) k e =
      let slope = l (ray x (suc j) s) -ℤ l (ray x j s) in
      let h = rises_more x s j i (i + j) refl in
      let r = slope_rises x s j i (i + j) refl in
      let t = times_next i slope in
      let same : k ≡ suc (i + j) = omega arith in
      let a = ap (λ (v : ℕ). l (ray x v s)) same in
      omega (arith, ints)

  -- where the slope after m steps is another, the function is nowhere further on where that slope alone would bring it
  pub straight_ends : (x : Vector) (s : Choices) (slope : ℤ) (m : ℕ) → IsStraight l x s slope m → slope ≡ slope_of l x s → (l (plus (ray x m s) s) -ℤ l (ray x m s) ≡ slope → ⊥) → (k : ℕ) → m < k → l (ray x k s) ≡ l x +ℤ (pos k *ℤ slope) → ⊥
  straight_ends x s slope m h is other k less e =
      let i = k - m in
      let next = l (ray x (suc m) s) -ℤ l (ray x m s) in
      let up = rises_more x s m i k (omega arith) in
      let least = slope_least x s m in
      let start = ray_start x s in
      let one = ray_step x s 0 in
      let zeroth = c.reads (plus (ray x 0 s) s) (plus x s) (λ j _. ap (λ (z : ℤ). z +ℤ bit (s j)) (ray_none (x j) (s j))) in
      let last = ray_step x s m in
      let differs : next ≡ slope → ⊥ = λ q. other (omega (arith, ints)) in
      let more : (slope +ℤ pos 1) ≤ℤ next = omega (arith, ints) in
      let grows = product_grows (pos i) (slope +ℤ pos 1) next (omega (arith, ints)) more in
      let apart = *ℤ-sum (pos i) slope (pos 1) in
      let unit : pos i *ℤ pos 1 ≡ pos i = omega (arith, ints) in
      let sum = sum-*ℤ (pos i) (pos m) slope in
      let total : pos i +ℤ pos m ≡ pos k = omega (arith, ints) in
      let whole = ap (λ (z : ℤ). z *ℤ slope) total in
      let here = h m (omega arith) in
      let some : 1 ≤ i = omega arith in
      omega (arith, ints)

  -- where the slope alone brings the function to its value after m steps, it does so at each step before
  pub straight_before : (x : Vector) (s : Choices) (slope : ℤ) (m : ℕ) → slope ≡ slope_of l x s → l (ray x m s) ≡ l x +ℤ (pos m *ℤ slope) → IsStraight l x s slope m
  straight_before x s slope m is e j less =
      let i = m - j in
      let next = l (ray x (suc j) s) -ℤ l (ray x j s) in
      let first = l (ray x 1 s) -ℤ l (ray x 0 s) in
      let up = rises_more x s j i m (omega arith) in
      let least = slope_least x s j in
      let start = ray_start x s in
      let one = ray_step x s 0 in
      let zeroth = c.reads (plus (ray x 0 s) s) (plus x s) (λ k _. ap (λ (z : ℤ). z +ℤ bit (s k)) (ray_none (x k) (s k))) in
      let at_first : first ≡ slope = omega (arith, ints) in
      let grows = product_grows (pos i) slope next (omega (arith, ints)) (omega (arith, ints)) in
      let sum = sum-*ℤ (pos i) (pos j) slope in
      let total : pos i +ℤ pos j ≡ pos m = omega (arith, ints) in
      let whole = ap (λ (z : ℤ). z *ℤ slope) total in
      let low = rises_more x s 0 j j (omega arith) in
      let product = ap (λ (z : ℤ). pos j *ℤ z) at_first in
      omega (arith, ints)
