-- The least clearing prices of the same bidders in another order.
use Rattle.std.proofs.Common.{ℕ, ℤ, List, length, arith}
use Rattle.std.proofs.lemmas.Int.{ints}
use Rattle.mix_num.specs.Vectors.{Vector, with_null}
use Rattle.mix_num.specs.Orders.{IsOrder, in_order}
use Rattle.mix_law.specs.Clearings.{AreLeastClearing, CanClear}
use Rattle.mix_clearing.proofs.Ceilings.{clear-where_same, same-where_clear}
use Rattle.mix_clearing.proofs.LeastClearing.{above-where_clear}
use Rattle.mix_laws.proofs.UtilityOrders.{clears-in_order, lyapunov-in_order}
use Rattle.mix_laws.specs.Orders.{utilities_in}

module _ (utilities : List (Vector → ℤ)) (order : List ℕ) (ordered : IsOrder (length utilities) order) (supply reserve : List ℤ) where
  abbrev turned : List (Vector → ℤ)
  turned = utilities_in order utilities

  -- what clears, clears in the order
  can-in_order : (prices : List ℤ) → CanClear utilities supply reserve prices → CanClear turned supply reserve prices
  can-in_order prices can = (in_order order can.0, can.1, clears-in_order utilities order ordered supply reserve prices can.0 can.1 can.2.count can.2)

  -- where anything clears, what clears in the order clears
  can-where_in_order : (low prices : List ℤ) → CanClear utilities supply reserve low → CanClear turned supply reserve prices → CanClear utilities supply reserve prices
  can-where_in_order low prices can there =
      let a = same-where_clear turned supply reserve low (can-in_order low can) prices there in
      let b = lyapunov-in_order utilities order ordered supply (with_null prices) in
      let c = lyapunov-in_order utilities order ordered supply (with_null low) in
      clear-where_same utilities supply reserve low can prices there.2.size (above-where_clear turned supply reserve prices there) (omega (arith, ints))

  pub least-in_order : (prices : List ℤ) → AreLeastClearing utilities supply reserve prices → AreLeastClearing turned supply reserve prices
  least-in_order prices are = record {
    clear = can-in_order prices are.clear;
    least = λ others can. are.least others (can-where_in_order prices others are.clear can);
  }
