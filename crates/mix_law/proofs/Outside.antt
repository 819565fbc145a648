-- Lowering a set of choices is raising the others, but for a shift of all.
use Rattle.std.proofs.Common.{◌≡◌, ◌∙◌, ◌<◌, ℕ, suc, Bool, true, false, not, ℤ, negsuc, ◌+ℤ◌, ◌-ℤ◌, ap, arith, sym}
use Rattle.std.proofs.lemmas.Int.{ints}
use Rattle.mix_num.specs.Vectors.{Vector, Choices, bit, minus, outside, plus, shifted}
use Rattle.mix_law.specs.Members.{KeepsLocal, fall_of, rho}

-- what the others fall by is missing from the total
pub rho-fall : {n : ℕ} {f : Vector → ℤ} {w : ℤ} → KeepsLocal n f w → (x : Vector) (s : Choices) → rho f x s ≡ w -ℤ fall_of f x (outside s)
rho-fall {n} {f} {w} c x s =
    let e = c.reads (minus x s) (shifted (plus x (outside s)) (negsuc 0)) (λ k _. at (x k) (s k)) in
    let r = c.shift (plus x (outside s)) (negsuc 0) in
    omega (arith, ints)
  where
    at : (a : ℤ) (b : Bool) → a -ℤ bit b ≡ (a +ℤ bit (not b)) +ℤ negsuc 0
    at a true = omega (arith, ints)
    at a false = omega (arith, ints)

-- a fall reads the choices 0 to n of a set alone
pub fall-same : {n : ℕ} {f : Vector → ℤ} {w : ℤ} → KeepsLocal n f w → (x : Vector) (s t : Choices) → ((k : ℕ) → k < suc n → s k ≡ t k) → fall_of f x s ≡ fall_of f x t
fall-same {n} {f} {w} c x s t h = ap (λ (v : ℤ). f x -ℤ v) (c.reads (plus x s) (plus x t) (λ k l. ap (λ (b : Bool). x k +ℤ bit b) (h k (omega arith))))

-- so it is enough that a set holds the others among these
pub rho-rest : {n : ℕ} {f : Vector → ℤ} {w : ℤ} → KeepsLocal n f w → (x : Vector) (s t : Choices) → ((k : ℕ) → k < suc n → t k ≡ not (s k)) → rho f x s ≡ w -ℤ fall_of f x t
rho-rest {n} {f} {w} c x s t h = rho-fall c x s ∙ ap (λ (v : ℤ). w -ℤ v) (fall-same c x (outside s) t (λ k l. sym (h k l)))
