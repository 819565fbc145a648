-- What bidders and the seller can rely on at clearing prices.
use Rattle.std.specs.Prelude.{◌≡◌, ℕ, ◌<◌, ◌≤◌, ℤ, ◌+ℤ◌, ◌-ℤ◌, ◌≤ℤ◌, List, length}
use Rattle.mix_num.specs.Vectors.{Vector, with_null}
use Rattle.mix_num.specs.Sums.{dot_of, total}
use Rattle.mix_law.specs.Clearings.{CanClear, bidder_bundle, bidder_utility}
use Rattle.mix_clearing.specs.Scales.{CanClearAt, at_scale, multiplied}
use Rattle.mix_clearing.specs.Values.{HasValue}

-- no prices that clear are better for any bidder: its utility there is at most what it is at these
abbrev pub AreBestForBidders : List (Vector → ℤ) → List ℤ → List ℤ → List ℤ → Type 0
AreBestForBidders utilities supply reserve prices =
    (others : List ℤ) → CanClear utilities supply reserve others → (k : ℕ) → k < length utilities → bidder_utility utilities k (with_null others) ≤ℤ bidder_utility utilities k (with_null prices)

-- nor are any with fractions: at each scale a bidder's utility at whatever clears is at most what it is at these prices at that scale
abbrev pub AreBestOfFractions : List (ℕ → Vector → ℤ) → List ℤ → List ℤ → List ℤ → Type 0
AreBestOfFractions utilities supply reserve prices =
    (d : ℕ) → 1 ≤ d → (others : List ℤ) → CanClearAt d utilities supply reserve others → (k : ℕ) → k < length utilities
    → bidder_utility (at_scale d utilities) k (with_null others) ≤ℤ bidder_utility (at_scale d utilities) k (with_null (multiplied d prices))

-- no bidder would rather have another bundle at its cost: its own has a value, and this less its cost is its utility; and no bundle that has a value
-- leaves it more
pub record IsContent (n : ℕ) (f : Vector → ℤ) (prices bundle : List ℤ) : Type 0 where
  pub value : ℤ
  pub valued : HasValue n f bundle value
  pub gain : value -ℤ dot_of prices bundle ≡ f (with_null prices)
  pub best : (other : List ℤ) (worth : ℤ) → HasValue n f other worth → (worth -ℤ dot_of prices other) ≤ℤ (value -ℤ dot_of prices bundle)

-- each bidder is content with its own bundle, so none envies another its bundle
abbrev pub AreContent : List (Vector → ℤ) → ℕ → List ℤ → List (List ℤ) → Type 0
AreContent utilities n prices bundles = (k : ℕ) → k < length utilities → IsContent n (bidder_utility utilities k) prices (bidder_bundle bundles k)

-- what all bidders pay, and what is returned at the reserves, are together the supply at the prices, which is no less than the supply at the reserves
pub record IsPaid (supply reserve prices payments returns : List ℤ) : Type 0 where
  pub exact : total payments +ℤ dot_of reserve returns ≡ dot_of prices supply
  pub least : dot_of reserve supply ≤ℤ (total payments +ℤ dot_of reserve returns)

-- a fair outcome: no prices that clear, whole or with fractions, are better for any bidder; each bidder is content with its own bundle; and the seller
-- is paid the supply at the prices
pub record IsFair (utilities : List (ℕ → Vector → ℤ)) (supply reserve prices : List ℤ) (bundles : List (List ℤ)) (payments returns : List ℤ) : Type 0 where
  pub best : AreBestOfFractions utilities supply reserve prices
  pub content : AreContent (at_scale 1 utilities) (length supply) prices bundles
  pub paid : IsPaid supply reserve prices payments returns
