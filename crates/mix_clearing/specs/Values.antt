-- What bundles are worth to bidders that are known by their utilities, and what an allocation is worth.
use Rattle.std.specs.Prelude.{◌≡◌, ℕ, ◌<◌, ℤ, pos, ◌+ℤ◌, ◌≤ℤ◌, List, length, get_or}
use Rattle.mix_num.specs.Vectors.{Vector, with_null}
use Rattle.mix_num.specs.Sums.{dot_of, total}
use Rattle.mix_num.specs.Shares.{sum_at}
use Rattle.mix_law.specs.Clearings.{bidder_utility, bidder_bundle}

-- the bundle of n goods is worth v: at no prices are the utility and the bundle's cost together less, and at some they are v
pub record HasValue (n : ℕ) (f : Vector → ℤ) (bundle : List ℤ) (v : ℤ) : Type 0 where
  pub over : (q : List ℤ) → length q ≡ n → v ≤ℤ (f (with_null q) +ℤ dot_of q bundle)
  pub reached : (q : List ℤ) × (length q ≡ n) × (f (with_null q) +ℤ dot_of q bundle ≡ v)

-- what each bidder's bundle is worth to it
pub record HaveValues (utilities : List (Vector → ℤ)) (n : ℕ) (bundles : List (List ℤ)) (values : List ℤ) : Type 0 where
  pub count : length values ≡ length utilities
  pub each : (k : ℕ) → k < length utilities → HasValue n (bidder_utility utilities k) (bidder_bundle bundles k) (get_or values k (pos 0))

-- a bundle for each of m bidders, and what is kept, not less than nothing of any good: together the supply
pub record IsAllocation (m : ℕ) (supply : List ℤ) (bundles : List (List ℤ)) (kept : List ℤ) : Type 0 where
  pub count : length bundles ≡ m
  pub sizes : (k : ℕ) → k < m → length (bidder_bundle bundles k) ≡ length supply
  pub size : length kept ≡ length supply
  pub some : (i : ℕ) → i < length supply → pos 0 ≤ℤ get_or kept i (pos 0)
  pub sum : (i : ℕ) → i < length supply → sum_at bundles i +ℤ get_or kept i (pos 0) ≡ get_or supply i (pos 0)

-- the worth of an allocation: the bidders' values, and what is kept at the reserves
abbrev pub worth : List ℤ → List ℤ → List ℤ → ℤ
worth values reserve kept = total values +ℤ dot_of reserve kept

-- every bundle has a value, and with the returns at the reserves they are worth no less than any allocation of bundles that have values
pub record AreWorthMost (utilities : List (Vector → ℤ)) (supply reserve : List ℤ) (bundles : List (List ℤ)) (returns : List ℤ) : Type 0 where
  pub valued : (k : ℕ) → k < length utilities → (v : ℤ) × HasValue (length supply) (bidder_utility utilities k) (bidder_bundle bundles k) v
  pub most : (values : List ℤ) → HaveValues utilities (length supply) bundles values
      → (others : List (List ℤ)) (kept theirs : List ℤ) → IsAllocation (length utilities) supply others kept → HaveValues utilities (length supply) others theirs
      → worth theirs reserve kept ≤ℤ worth values reserve returns
