-- The search near a guess: climbs from ever further below it.
use Rattle.std.specs.Prelude.{◌≡◌, ℕ, zero, suc, ◌<◌, ◌≤◌, ◌^◌, List, [], ℤ, pos, ◌-ℤ◌, length, get_or}
use Rattle.std.specs.Int.{int_max}
use Rattle.mix_num.specs.Vectors.{Vector, with_null}
use Rattle.mix_market.specs.Lowerings.{RisesWhereFallen}
use Rattle.mix_descent.specs.Trails.{IsTrail}
use Rattle.mix_descent.specs.declared.long_step.LongStep.{LongStep}

-- how far below the guess the climbs begin, one after the other: 0, 1, 8, 64 and so on
abbrev pub margin_at : ℕ → ℤ
margin_at zero = pos 0
margin_at (suc k) = pos (8 ^ k)

-- a start: for each good the guess less a margin, or the reserve where that is greater
pub record IsStartBelow (guess reserve : List ℤ) (margin : ℤ) (start : List ℤ) : Type 0 where
  pub size : length start ≡ length guess
  pub value : (k : ℕ) → k < length guess → get_or start k (pos 0) ≡ int_max (get_or guess k (pos 0) -ℤ margin) (get_or reserve k (pos 0))

-- a climb from such a start, along its trail to its end
pub record IsClimb (n : ℕ) (l : Vector → ℤ) (guess reserve : List ℤ) (margin : ℤ) (trail : List LongStep) (end : Vector) : Type 0 where
  pub start : List ℤ
  pub below : IsStartBelow guess reserve margin start
  pub climbs : IsTrail n l (with_null start) trail end

-- the trails of at most nine climbs, each from the next margin, and only where prices could fall from the end of the one before
pub record AreClimbs (n : ℕ) (l : Vector → ℤ) (guess reserve : List ℤ) (trails : List (List LongStep)) : Type 0 where
  pub few : length trails ≤ 9
  pub each : (k : ℕ) → k < length trails
      → (end : Vector) × IsClimb n l guess reserve (margin_at k) (get_or trails k []) end × (suc k < length trails → ¬ RisesWhereFallen n l (with_null reserve) end)
