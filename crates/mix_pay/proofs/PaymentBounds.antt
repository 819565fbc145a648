-- How large payments can be.
use Rattle.std.proofs.Common.{ℕ, zero, suc, ◌*◌, ◌<◌, ◌≤◌, ℤ, pos, ◌≤ℤ◌, List, ap, arith}
use Rattle.std.proofs.lemmas.Int.{ints}
use Rattle.mix_num.specs.Vectors.{Vector, dot_to}
use Rattle.mix_num.specs.Sellers.{IsAmount, AreAmounts}
use Rattle.mix_num.specs.Sums.{entries, dot_of}
use Rattle.mix_num.proofs.Costs.{dot-is}
use Rattle.mix_num.proofs.Products.{product_grows, product_grows_left, product_nonnegative}

-- what amounts cost at prices that are amounts too
cost_bound : (m : ℕ) (p x : Vector) → ((k : ℕ) → k < m → IsAmount (p k)) → ((k : ℕ) → k < m → IsAmount (x k)) → (pos 0 ≤ℤ dot_to m p x) × (dot_to m p x ≤ℤ pos (1000000000000 * m))
cost_bound zero p x h g = (omega (arith, ints), omega (arith, ints))
cost_bound (suc m) p x h g =
    let r = cost_bound m p x (λ k l. h k (omega arith)) (λ k l. g k (omega arith)) in
    let a = h m (omega arith) in
    let b = g m (omega arith) in
    let low = product_nonnegative (p m) (x m) a.0 b.0 in
    let up = product_grows_left (p m) (pos 1000000) (x m) b.0 a.1 in
    let most = product_grows (pos 1000000) (x m) (pos 1000000) (omega (arith, ints)) b.1 in
    (omega (arith, ints, r.0), omega (arith, ints, r.1))

-- a payment lies from 0 to 10,000,000,000,000
pub payment_bound : (n : ℕ) (p x : List ℤ) → n ≤ 8 → AreAmounts n p → AreAmounts n x → (pos 0 ≤ℤ dot_of p x) × (dot_of p x ≤ℤ pos 10000000000000)
payment_bound n p x few h g =
    let a = dot-is p x in
    let b = ap (λ (m : ℕ). dot_to m (entries p) (entries x)) h.0 in
    let r = cost_bound n (entries p) (entries x) (λ k l. h.1 k (pos 0) (omega (arith, h.0))) (λ k l. g.1 k (pos 0) (omega (arith, g.0))) in
    (omega (arith, ints, r.0), omega (arith, ints, r.1))
