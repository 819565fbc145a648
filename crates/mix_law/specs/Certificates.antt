-- Tight pairs of what clears: from the tables of the bidders in their order, and of the seller after them.
use Rattle.std.specs.Prelude.{ℕ, ℤ, List, map, length}
use Rattle.mix_num.specs.Vectors.{Vector}
use Rattle.mix_num.specs.Sellers.{seller_gain}
use Rattle.mix_num.specs.Orders.{in_order}
use Rattle.mix_num.specs.Pairs.{IsFirstTightOf, IsTightOf, tables_in}
use Rattle.mix_law.specs.Demands.{table_of}

-- the tables of all members at prices: the bidders' in their order, then the seller's
abbrev pub tables_at : List (Vector → ℤ) → List ℤ → List ℤ → List ℤ → List ℕ → List (List ℤ)
tables_at utilities supply reserve prices order =
    tables_in order (map (λ f. table_of (length supply) f prices) utilities) (table_of (length supply) (seller_gain supply reserve) prices)

-- two sets are a tight pair, or the first one, of the k-th bidder in the order and of good j, counted from 0
abbrev pub IsTightPair : List (Vector → ℤ) → List ℤ → List ℤ → List ℤ → List ℕ → List (List ℤ) → ℕ → ℕ → ℕ → ℕ → Type 0
IsTightPair utilities supply reserve prices order bundles k j upper lower =
    IsTightOf (length supply) (tables_at utilities supply reserve prices order) supply (in_order order bundles) k j upper lower

abbrev pub IsFirstTightPair : List (Vector → ℤ) → List ℤ → List ℤ → List ℤ → List ℕ → List (List ℤ) → ℕ → ℕ → ℕ → ℕ → Type 0
IsFirstTightPair utilities supply reserve prices order bundles k j upper lower =
    IsFirstTightOf (length supply) (tables_at utilities supply reserve prices order) supply (in_order order bundles) k j upper lower
