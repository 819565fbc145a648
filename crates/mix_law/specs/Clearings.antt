-- Clearing, the least clearing prices, and the tie rule. The bidders are known by their utilities, functions of the prices, in which the null
-- choice's price is 0.
use Rattle.std.specs.Prelude.{◌≡◌, ℕ, ◌<◌, ℤ, pos, ◌+ℤ◌, ◌≤ℤ◌, List, [], length, get_or}
use Rattle.mix_num.specs.Vectors.{Vector}
use Rattle.mix_num.specs.Tables.{IsLexAtMost}
use Rattle.mix_num.specs.Shares.{sum_at}
use Rattle.mix_num.specs.Returns.{AreLawfulReturns}
use Rattle.mix_num.specs.Orders.{place_at}
use Rattle.mix_law.specs.Demands.{IsDemanded}

-- the utility of the bidder at a place, and its bundle
abbrev pub bidder_utility : List (Vector → ℤ) → ℕ → Vector → ℤ
bidder_utility utilities k = get_or utilities k (λ x. pos 0)

abbrev pub bidder_bundle : List (List ℤ) → ℕ → List ℤ
bidder_bundle bundles k = get_or bundles k []

-- at prices at or above the reserves each bidder demands its bundle, the returns are lawful, and all of them add up to the supply
pub record Clears (utilities : List (Vector → ℤ)) (supply reserve prices : List ℤ) (bundles : List (List ℤ)) (returns : List ℤ) : Type 0 where
  pub size : length prices ≡ length supply
  pub floor : (i : ℕ) → i < length supply → get_or reserve i (pos 0) ≤ℤ get_or prices i (pos 0)
  pub count : length bundles ≡ length utilities
  pub sizes : (k : ℕ) → k < length utilities → length (bidder_bundle bundles k) ≡ length supply
  pub demanded : (k : ℕ) → k < length utilities → IsDemanded (length supply) (bidder_utility utilities k) prices (bidder_bundle bundles k)
  pub lawful : AreLawfulReturns supply reserve prices returns
  pub sum : (i : ℕ) → i < length supply → sum_at bundles i +ℤ get_or returns i (pos 0) ≡ get_or supply i (pos 0)

-- some bundles and returns clear at the prices
abbrev pub CanClear : List (Vector → ℤ) → List ℤ → List ℤ → List ℤ → Type 0
CanClear utilities supply reserve prices = (bundles : List (List ℤ)) × (returns : List ℤ) × Clears utilities supply reserve prices bundles returns

-- the least clearing prices: they clear, and no price is above that of any prices that clear
pub record AreLeastClearing (utilities : List (Vector → ℤ)) (supply reserve prices : List ℤ) : Type 0 where
  pub clear : CanClear utilities supply reserve prices
  pub least : (others : List ℤ) → CanClear utilities supply reserve others → (i : ℕ) → i < length supply → get_or prices i (pos 0) ≤ℤ get_or others i (pos 0)

-- the tie rule, for an order of the bidders: whatever else clears at the prices, and gives the bidders before the k-th in the order what these
-- bundles give them, gives the k-th no lexicographically greater bundle
abbrev pub KeepsTieRule : List (Vector → ℤ) → List ℤ → List ℤ → List ℤ → List ℕ → List (List ℤ) → Type 0
KeepsTieRule utilities supply reserve prices order bundles =
    (k : ℕ) → k < length order → (others : List (List ℤ)) (returns : List ℤ) → Clears utilities supply reserve prices others returns
    → ((i : ℕ) → i < k → bidder_bundle others (place_at order i) ≡ bidder_bundle bundles (place_at order i))
    → IsLexAtMost (bidder_bundle others (place_at order k)) (bidder_bundle bundles (place_at order k))

-- a solution: the least clearing prices, with bundles and returns that clear there and keep the tie rule
pub record IsSolution (utilities : List (Vector → ℤ)) (supply reserve : List ℤ) (order : List ℕ) (prices : List ℤ) (bundles : List (List ℤ)) (returns : List ℤ) : Type 0 where
  pub least : AreLeastClearing utilities supply reserve prices
  pub clear : Clears utilities supply reserve prices bundles returns
  pub rule : KeepsTieRule utilities supply reserve prices order bundles
