-- Prices of the goods as a list, and of all choices as a vector.
use Rattle.std.proofs.Common.{◌≡◌, ℕ, zero, suc, ◌<◌, ℤ, pos, ◌≤ℤ◌, List, length, get_or, map, sym, arith}
use Rattle.std.proofs.lemmas.Int.{ints}
use Rattle.std.proofs.lemmas.List.FromFn.{length-map-range_with_len, get_or-map-range_with_len}
use Rattle.std.specs.List.{range_with_len}
use Rattle.mix_num.specs.Vectors.{Vector, Agree, with_null}
use Rattle.mix_market.specs.Lyapunov.{IsBelow}

-- prices good by good, and over all choices
pub below-where_floor : (n : ℕ) (r p : List ℤ) → ((i : ℕ) → i < n → get_or r i (pos 0) ≤ℤ get_or p i (pos 0)) → IsBelow n (with_null r) (with_null p)
below-where_floor n r p h zero l = omega (arith, ints)
below-where_floor n r p h (suc i) l = h i (omega arith)

pub floor-where_below : (n : ℕ) (r p : List ℤ) → IsBelow n (with_null r) (with_null p) → (i : ℕ) → i < n → get_or r i (pos 0) ≤ℤ get_or p i (pos 0)
floor-where_below n r p h i l = h (suc i) (omega arith)

-- the list of the goods' prices
pub price_list : ℕ → Vector → List ℤ
price_list n z = map (λ k. z (suc k)) (range_with_len 0 n)

pub length-price_list : (n : ℕ) (z : Vector) → length (price_list n z) ≡ n
unfolding price_list
length-price_list n z = length-map-range_with_len (λ k. z (suc k)) 0 n

-- with the null choice's price 0, it is the vector again
pub with_null-price_list : (n : ℕ) (z : Vector) → z 0 ≡ pos 0 → Agree n (with_null (price_list n z)) z
unfolding price_list
with_null-price_list n z e zero l = sym e
with_null-price_list n z e (suc k) l = get_or-map-range_with_len (λ k. z (suc k)) 0 n k k (pos 0) (omega arith) (omega arith)
