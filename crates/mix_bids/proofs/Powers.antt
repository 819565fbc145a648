-- Products of at most seven numbers of at most 401.
use Rattle.std.proofs.Common.{◌≡◌, ℕ, ◌+◌, ◌*◌, ◌^◌, ◌≤◌, ◌<◌, arith, ap, ◌∙◌, add-one}
use Rattle.std.proofs.Math.Nat.{pow-suc, pow-le-pow_right}
use Rattle.std.proofs.lemmas.Nat.{mul-le}

-- one more factor
pub power_step : (s n k : ℕ) → s ≤ 401 ^ k → n ≤ 401 → s * n ≤ 401 ^ (k + 1)
power_step s n k p q =
    let a = mul-le s n (401 ^ k) 401 p q in
    let b : 401 ^ (k + 1) ≡ 401 ^ k * 401 = ap (λ z. 401 ^ z) (add-one k) ∙ pow-suc 401 k in
    omega arith

-- the greatest product
pub power_most : (s k : ℕ) → s ≤ 401 ^ k → k ≤ 7 → s ≤ 401 ^ 7
power_most s k p q =
    let a : 401 ^ k ≤ 401 ^ 7 = pow-le-pow_right (let z : 0 < 401 = omega arith in z) q in
    omega arith
