-- The least clearing prices are the least point of the Lyapunov function at or above the reserves, where anything clears there.
use Rattle.std.proofs.Common.{◌≡◌, ℕ, ℤ, pos, ◌≤ℤ◌, List, length, refl, arith}
use Rattle.std.proofs.lemmas.Int.{ints}
use Rattle.mix_num.specs.Vectors.{Vector, Agree, with_null}
use Rattle.mix_market.specs.Lyapunov.{lyapunov, IsBelow, IsLeastPoint}
use Rattle.mix_law.specs.Clearings.{AreLeastClearing, CanClear}
use Rattle.mix_clearing.proofs.ClearingPrices.{least-where_clear, clear-where_alike}
use Rattle.mix_clearing.proofs.PriceLists.{below-where_floor, floor-where_below, price_list, length-price_list, with_null-price_list}

module _ (utilities : List (Vector → ℤ)) (supply reserve p : List ℤ) where
  abbrev n : ℕ
  n = length supply

  abbrev l : Vector → ℤ
  l = lyapunov utilities supply

  -- prices that clear lie at or above the reserves
  pub above-where_clear : CanClear utilities supply reserve p → IsBelow n (with_null reserve) (with_null p)
  above-where_clear can = below-where_floor n reserve p can.2.floor

  -- the least point, where some bundles and returns clear there, are the least clearing prices
  pub least_clearing-where_least_point : IsLeastPoint n l (with_null reserve) (with_null p) → CanClear utilities supply reserve p → AreLeastClearing utilities supply reserve p
  least_clearing-where_least_point least clear = record {
    clear = clear;
    least = λ others can i h.
        let c = can.2 in
        let under = below-where_floor n reserve others c.floor in
        let a = least-where_clear utilities supply reserve others can.0 can.1 c p clear.2.size (floor-where_below n reserve p least.above) in
        let b = least.least (with_null others) refl under in
        floor-where_below n p others (least.lowest (with_null others) refl under (omega (arith, ints))) i h;
  }

  -- from here on the function reads the choices 0 to n alone
  module _ (reads : (x y : Vector) → Agree n x y → l x ≡ l y) where
    -- prices that clear have the least value among all vectors at or above the reserves
    pub least-of_vectors : CanClear utilities supply reserve p → (z : Vector) → z 0 ≡ pos 0 → IsBelow n (with_null reserve) z → l (with_null p) ≤ℤ l z
    least-of_vectors can z e h =
        let q : List ℤ = price_list n z in
        let same : Agree n (with_null q) z = with_null-price_list n z e in
        let floor = floor-where_below n reserve q (λ k m. let a = same k m in let b = h k m in omega (arith, ints)) in
        let value = reads (with_null q) z same in
        let low = least-where_clear utilities supply reserve p can.0 can.1 can.2 q (length-price_list n z) floor in
        omega (arith, ints)

    -- and the least clearing prices are the least point
    pub least_point-where_least_clearing : AreLeastClearing utilities supply reserve p → IsLeastPoint n l (with_null reserve) (with_null p)
    least_point-where_least_clearing are = record {
      above = above-where_clear are.clear;
      least = least-of_vectors are.clear;
      lowest = λ z e h alike k m.
          let q : List ℤ = price_list n z in
          let same : Agree n (with_null q) z = with_null-price_list n z e in
          let floor = floor-where_below n reserve q (λ k m. let a = same k m in let b = h k m in omega (arith, ints)) in
          let value = reads (with_null q) z same in
          let again = clear-where_alike utilities supply reserve p are.clear.0 are.clear.1 are.clear.2 q (length-price_list n z) floor (omega (arith, ints)) in
          let under = below-where_floor n p q (are.least q (are.clear.0, are.clear.1, again)) k m in
          let a = same k m in
          omega (arith, ints);
    }
