-- Of prices at or above the reserves those clear that have the Lyapunov value of the least clearing prices, so the greatest clearing prices
-- under a ceiling are the greatest of these.
use Rattle.std.proofs.Common.{◌≡◌, ◌↔◌, ℕ, ℤ, List, length, arith}
use Rattle.std.proofs.lemmas.Int.{ints}
use Rattle.mix_num.specs.Vectors.{Vector, with_null}
use Rattle.mix_market.specs.Lyapunov.{IsBelow, lyapunov}
use Rattle.mix_clearing.specs.Ceilings.{AreGreatestClearing}
use Rattle.mix_law.specs.Clearings.{CanClear}
use Rattle.mix_clearing.proofs.ClearingPrices.{clear-where_alike, least-where_clear}
use Rattle.mix_clearing.proofs.LeastClearing.{above-where_clear}
use Rattle.mix_clearing.proofs.PriceLists.{below-where_floor, floor-where_below}

module _ (utilities : List (Vector → ℤ)) (supply reserve low : List ℤ) (can : CanClear utilities supply reserve low) where
  abbrev n : ℕ
  n = length supply

  abbrev l : List ℤ → ℤ
  l prices = lyapunov utilities supply (with_null prices)

  -- whatever clears has the same Lyapunov value
  pub same-where_clear : (prices : List ℤ) → CanClear utilities supply reserve prices → l prices ≡ l low
  same-where_clear prices other =
      let down = least-where_clear utilities supply reserve prices other.0 other.1 other.2 low can.2.size can.2.floor in
      let up = least-where_clear utilities supply reserve low can.0 can.1 can.2 prices other.2.size other.2.floor in
      omega (arith, ints, down, up)

  -- and whatever has it at or above the reserves clears
  pub clear-where_same : (prices : List ℤ) → length prices ≡ n → IsBelow n (with_null reserve) (with_null prices) → l prices ≡ l low → CanClear utilities supply reserve prices
  clear-where_same prices size above same =
      (can.0, can.1, clear-where_alike utilities supply reserve low can.0 can.1 can.2 prices size (floor-where_below n reserve prices above) (omega (arith, ints, same)))

  pub clears-exactly : (prices : List ℤ) → length prices ≡ n → IsBelow n (with_null reserve) (with_null prices) → CanClear utilities supply reserve prices ↔ (l prices ≡ l low)
  clears-exactly prices size above = (same-where_clear prices, clear-where_same prices size above)

  -- the greatest prices from the reserves to the ceiling with that value are the greatest clearing prices under it
  pub greatest_clearing-where_greatest : (ceiling high : List ℤ) → length high ≡ n → IsBelow n (with_null reserve) (with_null high) → IsBelow n (with_null high) (with_null ceiling) → l high ≡ l low
      → ((others : List ℤ) → IsBelow n (with_null reserve) (with_null others) → IsBelow n (with_null others) (with_null ceiling) → l others ≡ l low → IsBelow n (with_null others) (with_null high))
      → AreGreatestClearing utilities supply reserve ceiling high
  greatest_clearing-where_greatest ceiling high size above below same greatest = record {
    clear = (clear-where_same high size above same, floor-where_below n high ceiling below);
    greatest = λ others under.
        floor-where_below n others high
        (greatest others (above-where_clear utilities supply reserve others under.0) (below-where_floor n others ceiling under.1) (same-where_clear others under.0));
  }
