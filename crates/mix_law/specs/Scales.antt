-- Functions of the prices that are given at each scale: whole prices x at a scale d stand for the rational prices x / d.
use Rattle.std.specs.Prelude.{◌≡◌, ℕ, ◌≤◌, ℤ, pos, ◌*ℤ◌}
use Rattle.mix_num.specs.Vectors.{Vector, Choices}
use Rattle.mix_law.specs.Members.{KeepsLocal, fall_of, rho}

-- at each scale the function keeps the local law, and at d times whole prices a step of a set's prices at the scale d changes it by as much as
-- the step at these prices does at the scale 1
pub record KeepsScales (n : ℕ) (f : ℕ → Vector → ℤ) : Type 0 where
  pub total : ℤ
  pub keeps : (d : ℕ) → 1 ≤ d → KeepsLocal n (f d) total
  pub falls : (d : ℕ) → 1 ≤ d → (x : Vector) (s : Choices) → fall_of (f d) (λ k. pos d *ℤ x k) s ≡ fall_of (f 1) x s
  pub rises : (d : ℕ) → 1 ≤ d → (x : Vector) (s : Choices) → rho (f d) (λ k. pos d *ℤ x k) s ≡ rho (f 1) x s
