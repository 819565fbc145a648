-- What the bidders of an auction are known by: their indirect utilities.
use Rattle.std.specs.Prelude.{ℕ, List, ℤ, length, map, Option, Some, None}
use Rattle.std.specs.Int.RustNames.{unsigned_abs}
use Rattle.mix_num.specs.Orders.{places}
use Rattle.mix_num.specs.Vectors.{Vector}
use Rattle.mix_bids.specs.Bids.{Book, total_weight}
use Rattle.mix_bids.specs.Caps.{capped_total, scaled_utility_under, utility_under}
use Rattle.mix_bids.specs.Convexity.{IsConvexAtScales}
use Rattle.mix_bids.specs.declared.bid.Bid.{Bid}
use Rattle.mix_text.specs.Auctions.{AuctionText}
use Rattle.mix_text.specs.Bidders.{list_at}
use Rattle.mix_text.specs.Caps.{cap_at}

-- what a bidder enters the auction with: its list of bids, and its cap where it has one
pub record Entrant : Type 0 where
  pub list : Book
  pub cap : Option ℤ

-- the bidder at a place, and all bidders in order
abbrev pub entrant_at : AuctionText → ℕ → Entrant
entrant_at a k = record { list = list_at a.bidders k; cap = cap_at a.caps k }

abbrev pub entrants_of : AuctionText → List Entrant
entrants_of a = map (entrant_at a) (places (length a.bidders))

-- how many units are bid for under a cap: the capped total, or where there is no cap the total of the list
abbrev pub total_under : Option ℤ → List Bid → ℤ
total_under None bids = total_weight bids
total_under (Some cap) bids = capped_total (unsigned_abs cap) bids

-- a bidder's indirect utility, and the same at each scale
abbrev pub entrant_utility : Entrant → Vector → ℤ
entrant_utility e = utility_under e.cap e.list.bids

abbrev pub scaled_entrant_utility : Entrant → ℕ → Vector → ℤ
scaled_entrant_utility e = scaled_utility_under e.cap e.list.bids

-- those of all bidders in order
abbrev pub utilities_of : AuctionText → List (Vector → ℤ)
utilities_of a = map entrant_utility (entrants_of a)

abbrev pub scaled_utilities_of : AuctionText → List (ℕ → Vector → ℤ)
scaled_utilities_of a = map scaled_entrant_utility (entrants_of a)

-- a bidder is convex where its utility is so over all rational prices
abbrev pub IsConvexEntrant : Entrant → Type 0
IsConvexEntrant e = IsConvexAtScales (scaled_entrant_utility e)
