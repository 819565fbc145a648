-- The Lyapunov function keeps the local law where each utility does.
use Rattle.std.proofs.Common.{ℕ, suc, ◌<◌, List, [], ◌∷◌, ℤ, pos, ◌+ℤ◌, ◌-ℤ◌, length, refl, arith}
use Rattle.std.proofs.lemmas.Int.{ints}
use Rattle.mix_num.specs.Vectors.{Vector, sum_to, with_null}
use Rattle.mix_law.specs.Members.{KeepsLocal, keeps_local}
use Rattle.mix_law.proofs.Linear.{plus_linear, sum_keeps}
use Rattle.mix_market.specs.Lyapunov.{lyapunov, sum_of}
use Rattle.mix_law.specs.Clearings.{bidder_utility}
use Rattle.mix_clearing.specs.Utilities.{KeepLaws}

-- each utility keeps the local law, with some total
abbrev pub KeepLocal : ℕ → List (Vector → ℤ) → Type 0
KeepLocal n utilities = (k : ℕ) → k < length utilities → (w : ℤ) × KeepsLocal n (bidder_utility utilities k) w

sum_keeps_local : (n : ℕ) (us : List (Vector → ℤ)) → KeepLocal n us → (w : ℤ) × KeepsLocal n (sum_of us) w
sum_keeps_local n [] each = (pos 0, record { reads = λ x y e. refl; shift = λ x k. omega (arith, ints); local = λ x i j a b e. omega (arith, ints) })
sum_keeps_local n (f ∷ us) each =
    let first : (w : ℤ) × KeepsLocal n f w = each 0 (omega arith) in
    let rest = sum_keeps_local n us (λ k l. each (suc k) (omega arith)) in
    (first.0 +ℤ rest.0, sum_keeps first.1 rest.1)

-- the supply's cost is linear, so it changes the total alone
pub lyapunov_keeps_local : (utilities : List (Vector → ℤ)) (supply : List ℤ) → KeepLocal (length supply) utilities → (w : ℤ) × KeepsLocal (length supply) (lyapunov utilities supply) w
unfolding lyapunov
lyapunov_keeps_local utilities supply each =
    let k = sum_keeps_local (length supply) utilities each in
    (k.0 -ℤ sum_to (suc (length supply)) (with_null supply), plus_linear (with_null supply) k.1)

-- utilities that keep the laws of members do
pub keep_local : (n : ℕ) (utilities : List (Vector → ℤ)) → KeepLaws n utilities → KeepLocal n utilities
keep_local n utilities laws k l = ((laws k l).total, keeps_local (laws k l).l_natural)
