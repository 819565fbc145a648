-- The largest set of goods along which a function falls most where prices fall by one, down to a floor.
use Rattle.std.specs.Prelude.{◌≡◌, ℕ, ◌≤◌, ◌⊎◌, true, ℤ, pos, ◌≤ℤ◌, ◌<ℤ◌}
use Rattle.mix_num.specs.Vectors.{Vector, Choices}
use Rattle.mix_market.specs.Lyapunov.{IsBelow}
use Rattle.mix_market.specs.Steepest.{IsGoods, IsWithin, slope_down}

-- p is least among all prices at or above it
pub record IsLeastAbove (n : ℕ) (l : Vector → ℤ) (p : Vector) : Type 0 where
  pub least : (q : Vector) → q 0 ≡ pos 0 → IsBelow n p q → l p ≤ℤ l q

-- a set of goods whose prices are all above the floor's
pub record MayFall (n : ℕ) (floor p : Vector) (s : Choices) : Type 0 where
  pub goods : IsGoods s
  pub above : (k : ℕ) → k ≤ n → s k ≡ true → floor k <ℤ p k

-- of all sets of goods that may fall, the empty one among them, s has the least slope down, and holds each other that does
pub record IsLargestFall (n : ℕ) (l : Vector → ℤ) (floor p : Vector) (s : Choices) : Type 0 where
  pub may : MayFall n floor p s
  pub steepest : (t : Choices) → MayFall n floor p t → slope_down l p s ≤ℤ slope_down l p t
  pub largest : (t : Choices) → MayFall n floor p t → slope_down l p t ≡ slope_down l p s → IsWithin n t s

-- what trying one set more gives, of which this is the slope: the set, where it passes and is at least as steep, or what was best before
abbrev pub Tries : Type 0 → ℕ → ℤ → ℕ → ℤ → ℕ → ℤ → Type 0
Tries passes next slope set least set2 least2 =
    (passes × (slope ≤ℤ least) × (set2 ≡ next) × (least2 ≡ slope))
    ⊎ ((set2 ≡ set) × (least2 ≡ least) × (passes → least <ℤ slope))
