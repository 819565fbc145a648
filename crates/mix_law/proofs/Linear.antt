-- Linear functions, and what is kept where one is added, or where two functions are.
use mathlib.Core.Path.{fun_ext}
use Rattle.std.proofs.Common.{Bool, true, false, cond, ◌≡◌, ℕ, zero, suc, ℤ, pos, ◌+ℤ◌, ◌-ℤ◌, ◌*ℤ◌, ◌≤ℤ◌, arith, ap}
use Rattle.std.proofs.lemmas.Int.{ints}
use Rattle.mix_num.specs.Vectors.{Vector, Choices, bit, plus, only, ray, sum_to}
use Rattle.mix_num.proofs.Products.{*ℤ-sum, *ℤ-difference}
use Rattle.mix_num.proofs.Costs.{dot_plus, dot_same, dot_shifted}
use Rattle.mix_law.specs.Members.{KeepsLocal, fall_of, tilted}

-- a linear function added takes the sum of its coefficients from the total
pub plus_linear : {n : ℕ} {f : Vector → ℤ} {w : ℤ} (q : Vector) → KeepsLocal n f w → KeepsLocal n (tilted n f q) (w -ℤ sum_to (suc n) q)
plus_linear {n} {f} {w} q c = record {
  reads = λ x y h. let a = c.reads x y h in let b = dot_same (suc n) q x y (λ k l. h k (omega arith)) in omega (arith, ints);
  shift = λ x k. let d = *ℤ-difference k w (sum_to (suc n) q) in let a = c.shift x k in let b = dot_shifted (suc n) q x k in omega (arith, ints);
  local = λ x i j a b d.
      let h = c.local x i j a b d in
      let e = dot_plus (suc n) q (plus x (only i)) (λ k. bit (only j k)) in
      let u = dot_plus (suc n) q x (λ k. bit (only i k)) in
      let v = dot_plus (suc n) q x (λ k. bit (only j k)) in
      omega (arith, ints);
}

-- two functions added
pub sum_keeps : {n : ℕ} {f g : Vector → ℤ} {v w : ℤ} → KeepsLocal n f v → KeepsLocal n g w → KeepsLocal n (λ x. f x +ℤ g x) (v +ℤ w)
sum_keeps {n} {f} {g} {v} {w} c d = record {
  reads = λ x y h. let a = c.reads x y h in let b = d.reads x y h in omega (arith, ints);
  shift = λ x k. let a = c.shift x k in let b = d.shift x k in let e = *ℤ-sum k v w in omega (arith, ints);
  local = λ x i j a b e. let h = c.local x i j a b e in let k = d.local x i j a b e in omega (arith, ints);
}

-- two functions that fall equally at each of m steps along a set: their sum does too
pub sum_of_steps : (f g : Vector → ℤ) (x : Vector) (m : ℕ) (s : Choices) → f (ray x m s) ≡ f x -ℤ (pos m *ℤ fall_of f x s) → g (ray x m s) ≡ g x -ℤ (pos m *ℤ fall_of g x s) → f (ray x m s) +ℤ g (ray x m s) ≡ (f x +ℤ g x) -ℤ (pos m *ℤ fall_of (λ y. f y +ℤ g y) x s)
sum_of_steps f g x m s e d =
    let i : fall_of (λ y. f y +ℤ g y) x s ≡ fall_of f x s +ℤ fall_of g x s = omega (arith, ints) in
    let j = ap (λ z. pos m *ℤ z) i in
    let h = *ℤ-sum (pos m) (fall_of f x s) (fall_of g x s) in
    omega (arith, ints)

-- one step of a set, or none, is a fall by equal steps whatever the function
pub step_of_one : (f : Vector → ℤ) (x : Vector) (s : Choices) (m : ℕ) → pos m ≤ℤ pos 1 → f (ray x m s) ≡ f x -ℤ (pos m *ℤ fall_of f x s)
step_of_one f x s zero h =
    let e : ray x 0 s ≡ x = fun_ext (λ k. still (x k) (s k)) in
    let p = ap f e in
    omega (arith, ints)
  where
    still : (a : ℤ) (b : Bool) → a +ℤ cond b (pos 0) (pos 0) ≡ a
    still a true = omega (arith, ints)
    still a false = omega (arith, ints)
step_of_one f x s (suc zero) h = omega (arith, ints)
step_of_one f x s (suc (suc m)) h = absurd (omega (arith, ints))
