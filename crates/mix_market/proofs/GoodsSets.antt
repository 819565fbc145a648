-- Sets of goods as numbers: those without the null choice are the even ones.
use Rattle.std.proofs.Common.{◌≡◌, ℕ, ◌+◌, ◌-◌, ◌*◌, ◌^◌, ◌/◌, ◌<◌, false, arith, ap, add-one, pow-suc, pow_pos}
use Rattle.std.proofs.lemmas.Nat.Bits.{bit_at_lowest}
use Rattle.std.proofs.lemmas.Bool.{eqb-false, ne_eqb}
use Rattle.std.specs.Int.{bit_at}
use Rattle.mix_num.specs.Vectors.{members}
use Rattle.mix_num.specs.Moves.{IsSetOfGoods}

pub even_of : (set : ℕ) → members set 0 ≡ false → set ≡ 2 * (set / 2)
even_of set h = let e = bit_at_lowest set in let other = eqb-false (bit_at set 0) 1 h in omega arith

pub even_null : (k : ℕ) → members (2 * k) 0 ≡ false
even_null k = let e = bit_at_lowest (2 * k) in ne_eqb (bit_at (2 * k) 0) 1 (λ q. omega arith)

twice : (n : ℕ) → 2 ^ (n + 1) ≡ 2 * 2 ^ n
twice n = let e = ap (λ (k : ℕ). 2 ^ k) (add-one n) in let p = pow-suc 2 n in omega arith

-- n goods have 2 ^ n sets
pub even_goods : (n k : ℕ) → k < 2 ^ n → IsSetOfGoods n (2 * k)
even_goods n k h = (let e = twice n in omega arith, even_null k)

pub half_goods : (n set : ℕ) → IsSetOfGoods n set → set / 2 < 2 ^ n
half_goods n set g = let e = twice n in let even = even_of set g.1 in let below = g.0 in omega arith

pub count_goods : (n : ℕ) → (2 ^ (n + 1) - 2) / 2 + 1 ≡ 2 ^ n
count_goods n = let e = twice n in let p = pow_pos n in omega arith
