-- Two markets of which one is scarcer than the other: no less is wanted there, no more is offered, and no reserve is lower.
use Rattle.std.specs.Prelude.{◌≡◌, ℕ, ℤ, ◌-ℤ◌, ◌≤ℤ◌, List, length}
use Rattle.mix_num.specs.Vectors.{Vector}
use Rattle.mix_market.specs.Lyapunov.{IsBelow, sum_of}
use Rattle.mix_law.specs.Clearings.{AreLeastClearing, CanClear}
use Rattle.mix_clearing.specs.Ceilings.{AreAtMost, AreGreatestClearing, CanClearUnder}

-- with the utility g no less is wanted than with f: where prices rise, g falls by no less than f
abbrev pub WantsNoLess : ℕ → (Vector → ℤ) → (Vector → ℤ) → Type 0
WantsNoLess n f g = (x y : Vector) → IsBelow n x y → (f x -ℤ f y) ≤ℤ (g x -ℤ g y)

-- the second market is scarcer: over the same goods, the others together want no less, no more is offered of any good, and no reserve is lower
pub record IsScarcer (utilities : List (Vector → ℤ)) (supply reserve : List ℤ) (others : List (Vector → ℤ)) (offered floor : List ℤ) : Type 0 where
  pub goods : length offered ≡ length supply
  pub wanted : WantsNoLess (length supply) (sum_of utilities) (sum_of others)
  pub less : AreAtMost (length supply) offered supply
  pub higher : AreAtMost (length supply) reserve floor

-- no clearing price is lower in the second market: whatever clears there is at or above the least clearing prices of the first; and its greatest
-- clearing prices under a ceiling are at or above whatever clears in the first under that ceiling, or a lower one
pub record NoPriceIsLower (utilities : List (Vector → ℤ)) (supply reserve : List ℤ) (others : List (Vector → ℤ)) (offered floor : List ℤ) : Type 0 where
  pub least : (prices later : List ℤ) → AreLeastClearing utilities supply reserve prices → CanClear others offered floor later → AreAtMost (length supply) prices later
  pub greatest : (ceiling top prices later : List ℤ) → AreAtMost (length supply) ceiling top → CanClearUnder utilities supply reserve ceiling prices
      → AreGreatestClearing others offered floor top later → AreAtMost (length supply) prices later
