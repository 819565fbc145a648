-- Canonical lists: for each value vector of a list the sum of the weights of the bids that have it, where that isn't 0.
use Rattle.std.specs.Prelude.{◌≡◌, ◌≢◌, List, map, ℤ, pos, All}
use Rattle.std.specs.List.{Contains}
use Rattle.std.specs.List.Sorted.{IsStrictlySortedBy}
use Rattle.std.specs.declared.cmp.Ordering.{Ordering}
use Rattle.std.specs.Ordering.{int_cmp, is_eq}
use Rattle.std.specs.Option.{option_cmp}
use Rattle.std.specs.Cmp.Lexicographic.{slice_cmp}
use Rattle.mix_bids.specs.Offers.{Offers}
use Rattle.mix_bids.specs.Bids.{weight_where}
use Rattle.mix_bids.specs.declared.bid.Bid.{Bid}
use Rattle.mix_canon.specs.declared.term.Term.{Term}

-- the order of value vectors: good by good, nothing before every number
abbrev pub value_order : Offers → Offers → Ordering
value_order v w = slice_cmp (option_cmp int_cmp) v w

-- the weight of a value vector in a list: the sum of the weights of the bids that have exactly these values
abbrev pub weight_of : Offers → List Bid → ℤ
weight_of v bs = weight_where (λ b. is_eq (value_order v b.values.items)) bs

-- the value vectors of a list of pairs
abbrev pub vectors : List Term → List Offers
vectors ts = map (λ t. t.values.items) ts

-- the pairs of the value vectors whose weights aren't 0
pub record ArePairsOf (weight : Offers → ℤ) (ts : List Term) : Type 0 where
  -- each pair has the weight of its value vector
  pub weights : All (λ t. t.weight ≡ weight t.values.items) ts
  -- and that isn't 0
  pub some : All (λ t. t.weight ≢ pos 0) ts
  -- each value vector whose weight isn't 0 has a pair
  pub every : (v : Offers) → weight v ≢ pos 0 → Contains (vectors ts) v
  -- the pairs stand in the order of their values, and no two have the same
  pub order : IsStrictlySortedBy value_order (vectors ts)

-- the canonical list of a list of bids
abbrev pub IsCanonOf : List Bid → List Term → Type 0
IsCanonOf bs ts = ArePairsOf (λ v. weight_of v bs) ts
