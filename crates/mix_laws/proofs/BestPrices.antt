-- The least clearing prices are the best for each bidder, and where prices are no lower the seller has no less.
use Rattle.std.proofs.Common.{◌≡◌, ℕ, ◌≤◌, ℤ, ◌+ℤ◌, ◌≤ℤ◌, List, length, map, refl, ap, arith}
use Rattle.std.proofs.lemmas.Int.{ints}
use Rattle.mix_num.specs.Vectors.{Vector, dot_to, with_null}
use Rattle.mix_num.specs.Sums.{dot_of, entries, total}
use Rattle.mix_num.proofs.Costs.{dot-grows, dot-is}
use Rattle.mix_num.proofs.Products.{product_grows_left}
use Rattle.mix_law.specs.Clearings.{AreLeastClearing, Clears, bidder_utility}
use Rattle.mix_clearing.specs.Ceilings.{AreAtMost}
use Rattle.mix_clearing.specs.Fairness.{AreBestForBidders}
use Rattle.mix_clearing.specs.Utilities.{KeepLaws}
use Rattle.mix_clearing.proofs.FairOutcomes.{paid-where_clears}
use Rattle.mix_clearing.proofs.FallingUtilities.{falls-where_lawful}
use Rattle.mix_clearing.proofs.PriceLists.{below-where_floor}

-- the least clearing prices are best for each bidder
pub best-where_least : (utilities : List (Vector → ℤ)) (supply reserve prices : List ℤ) → KeepLaws (length supply) utilities → 1 ≤ length supply
    → AreLeastClearing utilities supply reserve prices → AreBestForBidders utilities supply reserve prices
best-where_least utilities supply reserve prices laws some are others can k h =
    falls-where_lawful (length supply) (bidder_utility utilities k) some (laws k h) (with_null prices) (with_null others)
    (below-where_floor (length supply) prices others (are.least others can))

dot-over : (n : ℕ) (q x : List ℤ) → length q ≡ n → dot_of q x ≡ dot_to n (entries q) (entries x)
dot-over n q x e =
    let a = dot-is q x in
    let b = ap (λ (k : ℕ). dot_to k (entries q) (entries x)) e in
    omega (arith, ints)

-- the supply at prices that are no lower
pub gains-where_higher : (utilities others : List (Vector → ℤ)) (supply reserve prices later : List ℤ) (bundles after : List (List ℤ)) (returns kept : List ℤ) → length reserve ≡ length supply
    → Clears utilities supply reserve prices bundles returns → Clears others supply reserve later after kept → AreAtMost (length supply) prices later
    → (total (map (dot_of prices) bundles) +ℤ dot_of reserve returns) ≤ℤ (total (map (dot_of later) after) +ℤ dot_of reserve kept)
gains-where_higher utilities others supply reserve prices later bundles after returns kept long c d above =
    let n = length supply in
    let a = (paid-where_clears utilities supply reserve prices bundles (map (dot_of prices) bundles) returns c long refl).exact in
    let b = (paid-where_clears others supply reserve later after (map (dot_of later) after) kept d long refl).exact in
    let e = dot-over n prices supply c.size in
    let f = dot-over n later supply d.size in
    let up = dot-grows n (entries later) (entries prices) (entries supply)
    (λ i l. product_grows_left _ _ _ (let g = c.lawful.some i l in let h = c.lawful.most i l in omega (arith, ints)) (above i l)) in
    omega (arith, ints)
