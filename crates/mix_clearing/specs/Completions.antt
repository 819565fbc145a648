-- The tie rule told by what can be completed.
use Rattle.std.specs.Prelude.{◌≡◌, ℕ, ◌<◌, ℤ, List, length}
use Rattle.mix_num.specs.Vectors.{Vector}
use Rattle.mix_num.specs.Tables.{IsLexAtMost}
use Rattle.mix_num.specs.Orders.{place_at}
use Rattle.mix_law.specs.Clearings.{Clears, bidder_bundle}

-- a bundle of the k-th bidder in the order can be completed: with it, and with the bundles that the bidders before have, some bundles of the
-- later ones and some returns clear
abbrev pub IsCompletable : List (Vector → ℤ) → List ℤ → List ℤ → List ℤ → List ℕ → List (List ℤ) → ℕ → List ℤ → Type 0
IsCompletable utilities supply reserve prices order bundles k bundle =
    (others : List (List ℤ)) × (returns : List ℤ) × Clears utilities supply reserve prices others returns
    × ((i : ℕ) → i < k → bidder_bundle others (place_at order i) ≡ bidder_bundle bundles (place_at order i)) × (bidder_bundle others (place_at order k) ≡ bundle)

-- the bundle of each bidder in the order can be completed, and is the lexicographically greatest that can
abbrev pub AreGreatestCompletable : List (Vector → ℤ) → List ℤ → List ℤ → List ℤ → List ℕ → List (List ℤ) → Type 0
AreGreatestCompletable utilities supply reserve prices order bundles =
    (k : ℕ) → k < length order → IsCompletable utilities supply reserve prices order bundles k (bidder_bundle bundles (place_at order k))
    × ((bundle : List ℤ) → IsCompletable utilities supply reserve prices order bundles k bundle → IsLexAtMost bundle (bidder_bundle bundles (place_at order k)))
