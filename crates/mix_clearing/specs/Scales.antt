-- A market at a scale: whole prices at a scale d stand for d-ths, and so do the reserves once each is multiplied by d. What clears at a scale is
-- what clears, of the utilities at that scale and of these reserves.
use Rattle.std.specs.Prelude.{ℕ, ◌<◌, ◌≤◌, List, map, ℤ, pos, ◌*ℤ◌, ◌≤ℤ◌, length, get_or}
use Rattle.mix_num.specs.Vectors.{Vector}
use Rattle.mix_law.specs.Scales.{KeepsScales}
use Rattle.mix_law.specs.Clearings.{CanClear}

-- the utilities at a scale
abbrev pub at_scale : ℕ → List (ℕ → Vector → ℤ) → List (Vector → ℤ)
at_scale d utilities = map (λ f. f d) utilities

-- each number d times
abbrev pub multiplied : ℕ → List ℤ → List ℤ
multiplied d xs = map (λ a. pos d *ℤ a) xs

-- some bundles and returns clear at prices of a scale
abbrev pub CanClearAt : ℕ → List (ℕ → Vector → ℤ) → List ℤ → List ℤ → List ℤ → Type 0
CanClearAt d utilities supply reserve prices = CanClear (at_scale d utilities) supply (multiplied d reserve) prices

-- no prices with fractions beat the prices: whatever clears at a scale is in each good at or above them
abbrev pub AreLeastOfFractions : List (ℕ → Vector → ℤ) → List ℤ → List ℤ → List ℤ → Type 0
AreLeastOfFractions utilities supply reserve prices =
    (d : ℕ) → 1 ≤ d → (others : List ℤ) → CanClearAt d utilities supply reserve others → (i : ℕ) → i < length supply → (pos d *ℤ get_or prices i (pos 0)) ≤ℤ get_or others i (pos 0)

-- each utility keeps what this rests on
abbrev pub KeepScales : ℕ → List (ℕ → Vector → ℤ) → Type 0
KeepScales n utilities = (k : ℕ) → k < length utilities → KeepsScales n (get_or utilities k (λ d x. pos 0))
