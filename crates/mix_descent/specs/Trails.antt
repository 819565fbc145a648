-- Long steps, and the trail that they make from a start.
use Rattle.std.specs.Prelude.{◌≡◌, ◌≢◌, ℕ, List, [], ◌∷◌, ℤ, pos, ◌+ℤ◌, ◌*ℤ◌, ◌≤ℤ◌}
use Rattle.mix_num.specs.Vectors.{Vector, members, ray, Agree}
use Rattle.mix_num.specs.Moves.{IsSetOfGoods, raised}
use Rattle.mix_market.specs.Steepest.{IsMinimalSteepest, slope_of}
use Rattle.mix_descent.specs.declared.long_step.LongStep.{LongStep}

-- the prices after a long step from p
abbrev pub after : Vector → LongStep → Vector
after p step = raised p (members step.set) step.length

-- the long step at p: its set is the minimal steepest one and isn't empty, and its length is the greatest number of steps along the set
-- after which l has risen by as many slopes
pub record IsLongStep (n : ℕ) (l : Vector → ℤ) (p : Vector) (step : LongStep) : Type 0 where
  pub goods : IsSetOfGoods n step.set
  pub some : step.set ≢ 0
  pub minimal : IsMinimalSteepest n l p (members step.set)
  pub slope : step.slope ≡ slope_of l p (members step.set)
  pub straight : l (after p step) ≡ l p +ℤ (step.length *ℤ step.slope)
  pub greatest : (m : ℕ) → l (ray p m (members step.set)) ≡ l p +ℤ (pos m *ℤ step.slope) → pos m ≤ℤ step.length

-- long steps from p to q, each from where the one before it ends
unfoldable pub AreLongSteps : ℕ → (Vector → ℤ) → Vector → List LongStep → Vector → Type 0
AreLongSteps n l p [] q = Agree n q p
AreLongSteps n l p (step ∷ steps) q = IsLongStep n l p step × AreLongSteps n l (after p step) steps q

-- the trail from p: its long steps lead to its end, where the minimal steepest set is empty
pub record IsTrail (n : ℕ) (l : Vector → ℤ) (p : Vector) (steps : List LongStep) (end : Vector) : Type 0 where
  pub chained : AreLongSteps n l p steps end
  pub ends : IsMinimalSteepest n l end (members 0)
