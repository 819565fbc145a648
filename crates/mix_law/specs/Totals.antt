-- A member's total isn't negative.
use Rattle.std.specs.Prelude.{◌≡◌, ℕ, zero, suc, ◌≤◌, ℤ, pos, ◌-ℤ◌, ◌*ℤ◌, ◌≤ℤ◌, refl}
use Rattle.std.proofs.Common.{arith, ap}
use Rattle.std.proofs.lemmas.Int.{ints, clamps}
use Rattle.mix_num.specs.Vectors.{Vector}
use Rattle.mix_law.specs.Members.{IsLNatural, excess}

-- each good's price one below its top
abbrev below_tops : (ℕ → ℤ) → Vector
below_tops top zero = pos 0
below_tops top (suc k) = top (suc k) -ℤ pos 1

excess-below_tops : (n : ℕ) (top : ℕ → ℤ) → excess (suc n) top (below_tops top) ≡ pos 1
excess-below_tops zero top = omega (arith, ints, clamps)
excess-below_tops (suc n) top = let r = excess-below_tops n top in omega (arith, ints, clamps)

total_at : (n : ℕ) {f : Vector → ℤ} {w : ℤ} {top : ℕ → ℤ} → IsLNatural (suc n) f w top → pos 0 ≤ℤ w
total_at n {f} {w} {top} c =
    let s = c.size (below_tops top) refl in
    let e = ap (λ z. w *ℤ z) (excess-below_tops n top) in
    omega (arith, ints, s.0, s.1)

pub total_nonnegative : {n : ℕ} {f : Vector → ℤ} {w : ℤ} {top : ℕ → ℤ} → 1 ≤ n → IsLNatural n f w top → pos 0 ≤ℤ w
total_nonnegative {n = zero} h c = absurd (omega arith)
total_nonnegative {n = suc m} h c = total_at m c
