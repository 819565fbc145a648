-- The greatest prices under a ceiling at which a function is as low as at its least point.
use Rattle.std.specs.Prelude.{◌≡◌, ℕ, ◌≤◌, true, ℤ, pos, ◌≤ℤ◌, ◌<ℤ◌}
use Rattle.mix_num.specs.Vectors.{Vector, Choices}
use Rattle.mix_market.specs.Lyapunov.{IsBelow}
use Rattle.mix_market.specs.Steepest.{IsGoods, IsWithin, slope_of}

-- a set of goods whose prices are all below the ceiling's
pub record MayRise (n : ℕ) (ceiling p : Vector) (s : Choices) : Type 0 where
  pub goods : IsGoods s
  pub below : (k : ℕ) → k ≤ n → s k ≡ true → p k <ℤ ceiling k

-- of all sets of goods that may rise, the empty one among them, s has the least slope, and holds each other that has it
pub record IsLargestRise (n : ℕ) (l : Vector → ℤ) (ceiling p : Vector) (s : Choices) : Type 0 where
  pub may : MayRise n ceiling p s
  pub steepest : (t : Choices) → MayRise n ceiling p t → slope_of l p s ≤ℤ slope_of l p t
  pub largest : (t : Choices) → MayRise n ceiling p t → slope_of l p t ≡ slope_of l p s → IsWithin n t s

-- prices from the floor to the ceiling at which l is as low as at low
pub record IsAsLow (n : ℕ) (l : Vector → ℤ) (floor ceiling low p : Vector) : Type 0 where
  pub null : p 0 ≡ pos 0
  pub above : IsBelow n floor p
  pub below : IsBelow n p ceiling
  pub same : l p ≡ l low

-- p is one of these, and each of them is at or below it
pub record IsGreatestAsLow (n : ℕ) (l : Vector → ℤ) (floor ceiling low p : Vector) : Type 0 where
  pub own : IsAsLow n l floor ceiling low p
  pub greatest : (q : Vector) → IsAsLow n l floor ceiling low q → IsBelow n q p
