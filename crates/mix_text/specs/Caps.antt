-- The caps of an auction's bidders: how many units a bidder takes at most, in all goods together.
use Rattle.std.specs.Prelude.{◌≡◌, ◌≤ℤ◌, ℕ, ℤ, pos, List, length, get_or, replicate, slice_set, Option, Some, None}
use Rattle.mix_bids.specs.Caps.{ArePositive}
use Rattle.mix_text.specs.Bidders.{Named, list_at}

-- the cap of the bidder at a place, who may have none
abbrev pub cap_at : List (Option ℤ) → ℕ → Option ℤ
cap_at caps k = get_or caps k None

-- m bidders without caps
abbrev pub no_caps : ℕ → List (Option ℤ)
no_caps m = replicate m None

-- the caps, where the bidder at a place has been given one
abbrev pub with_cap : List (Option ℤ) → ℕ → ℤ → List (Option ℤ)
with_cap caps k cap = slice_set caps k (Some cap)

-- caps of these bidders: each is from 0 to 1,000,000 units, and its bidder has no bid of negative weight
pub record AreCaps (bidders : Named) (caps : List (Option ℤ)) : Type 0 where
  pub size : length caps ≡ length bidders
  pub range : (k : ℕ) (cap : ℤ) → cap_at caps k ≡ Some cap → (pos 0 ≤ℤ cap) × (cap ≤ℤ pos 1000000)
  pub positive : (k : ℕ) (cap : ℤ) → cap_at caps k ≡ Some cap → ArePositive (list_at bidders k).bids
