-- A linear function of the prices, one good at a time.
use Rattle.std.proofs.Common.{◌≡◌, ℕ, suc, ◌+◌, ℤ, ◌+ℤ◌, ◌*ℤ◌, ap, arith, add-one}
use Rattle.std.proofs.lemmas.Int.{ints}
use Rattle.mix_num.specs.Vectors.{Vector, dot_to}

pub dot_next : (q x : Vector) (m : ℕ) (sum more v : ℤ) → sum ≡ dot_to (suc m) q x → v ≡ q (suc m) *ℤ x (suc m) → more ≡ sum +ℤ v → more ≡ dot_to (suc (m + 1)) q x
dot_next q x m sum more v a b e = omega (arith, ints, ap (λ (k : ℕ). dot_to (suc k) q x) (add-one m))
