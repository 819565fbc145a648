-- A fall of a set of goods by several units at once.
use Rattle.std.specs.Prelude.{◌≡◌, ℕ, ℤ, pos, ◌+ℤ◌, ◌*ℤ◌, ◌≤ℤ◌}
use Rattle.mix_num.specs.Vectors.{Vector, Choices}
use Rattle.mix_num.specs.Moves.{lowered}
use Rattle.mix_market.specs.Lyapunov.{IsBelow}
use Rattle.mix_market.specs.Steepest.{slope_down}

-- at least one unit, to prices at or above the floor, and l changes by the same at each unit
pub record IsLongFall (n : ℕ) (l : Vector → ℤ) (floor p : Vector) (s : Choices) (by : ℤ) : Type 0 where
  pub some : pos 1 ≤ℤ by
  pub above : IsBelow n floor (lowered p s by)
  pub even : l (lowered p s by) ≡ l p +ℤ (by *ℤ slope_down l p s)
