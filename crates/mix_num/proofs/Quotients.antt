-- Quotients of whole numbers, rounded up.
use Rattle.std.proofs.Common.{◌≡◌, ◌↔◌, ℕ, zero, suc, ◌/◌, ◌≤◌, ℤ, pos, negsuc, ◌-ℤ◌, ◌*ℤ◌, ◌≤ℤ◌, ◌<ℤ◌, arith}
use Rattle.std.proofs.lemmas.Int.{ints, by_lt_z}
use Rattle.mix_num.proofs.Products.{*ℤ-difference, product_grows}

-- c is the least whole number that is not below t / d
pub record IsCeiling (d : ℕ) (t c : ℤ) : Type 0 where
  pub low : (pos d *ℤ (c -ℤ pos 1)) <ℤ t
  pub high : t ≤ℤ (pos d *ℤ c)

-- t / d rounded up
abbrev pub ceiling : ℕ → ℤ → ℤ
ceiling d (pos zero) = pos 0
ceiling d (pos (suc n)) = pos (suc (n / d))
ceiling d (negsuc n) = pos 0 -ℤ pos (suc n / d)

pub ceiling_is : (d : ℕ) (t : ℤ) → 1 ≤ d → IsCeiling d t (ceiling d t)
ceiling_is d (pos zero) h = record { low = omega (arith, ints); high = omega (arith, ints) }
ceiling_is d (pos (suc n)) h = record { low = omega (arith, ints, *ℤ-difference (pos d) (pos (suc (n / d))) (pos 1)); high = omega (arith, ints) }
ceiling_is d (negsuc n) h =
    let e = *ℤ-difference (pos d) (pos 0) (pos (suc n / d)) in
    record { low = omega (arith, ints, *ℤ-difference (pos d) (pos 0 -ℤ pos (suc n / d)) (pos 1)); high = omega (arith, ints) }

-- a number lies below the quotient rounded up exactly where its product lies below the number that is divided
pub below_ceiling : (d : ℕ) (t c a : ℤ) → IsCeiling d t c → (a <ℤ c) ↔ ((pos d *ℤ a) <ℤ t)
below_ceiling d t c a is = (
  λ h. let e = product_grows (pos d) a (c -ℤ pos 1) (omega (arith, ints)) (omega (arith, ints)) in let l = is.low in omega (arith, ints),
  λ h. by_lt_z a c (λ q. q) (λ q. let e = product_grows (pos d) c a (omega (arith, ints)) q in let u = is.high in absurd (omega (arith, ints))),
)

-- where d divides evenly, nothing is rounded
pub ceiling_exact : (d : ℕ) (t c a : ℤ) → 1 ≤ d → IsCeiling d t c → t ≡ pos d *ℤ a → c ≡ a
ceiling_exact d t c a some is even =
    let no : a <ℤ c → ⊥ = λ h. let l = (below_ceiling d t c a is).0 h in omega (arith, ints) in
    let yes : (a -ℤ pos 1) <ℤ c = (below_ceiling d t c (a -ℤ pos 1) is).1 (omega (arith, ints, *ℤ-difference (pos d) a (pos 1))) in
    by_lt_z a c (λ h. absurd (no h)) (λ h. omega (arith, ints))
