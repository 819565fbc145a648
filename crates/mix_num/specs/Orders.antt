-- The order in which the bidders are served.
use Rattle.std.specs.Prelude.{ℕ, ℤ, List, [], get_or, map}
use Rattle.std.specs.List.{range_with_len}
use Rattle.std.specs.List.Sorted.{IsPermutation}

-- the places 0 to m - 1 of m bidders, as they stand: the order of first appearance
abbrev pub places : ℕ → List ℕ
places m = range_with_len 0 m

-- an order of m bidders: their places, each once
abbrev pub IsOrder : ℕ → List ℕ → Type 0
IsOrder m order = IsPermutation (places m) order

-- the bidder that is at k in the order
abbrev pub place_at : List ℕ → ℕ → ℕ
place_at order k = get_or order k 0

-- the lists of the bidders, one after the other in the order
abbrev pub in_order : List ℕ → List (List ℤ) → List (List ℤ)
in_order order lists = map (λ k. get_or lists k []) order
