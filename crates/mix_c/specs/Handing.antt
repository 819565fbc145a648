-- How bytes come into the memory of whoever calls from C.
use Rattle.std.specs.Prelude.{◌≡◌, ◌<◌, ◌≤◌, ◌++◌, ℕ, List, length, drop}

-- the number of bytes is told, and they stand at the front of the room where they fit; else it is as it was
pub record IsHandedOver (bytes : List ℕ) (needed : ℕ) (old new : List ℕ) : Type 0 where
  pub told : needed ≡ length bytes
  pub fits : length bytes ≤ length old → new ≡ bytes ++ drop (length bytes) old
  pub too_wide : length old < length bytes → new ≡ old
