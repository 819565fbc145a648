-- What becomes of an auction when a bid is added or a bidder leaves.
use Rattle.std.specs.Prelude.{◌==◌, ◌-◌, ℕ, ℤ, List, [], ◌∷◌, ◌++◌, length, map, filter, remove, not, nat_le, nat_lt, if◌then◌else◌, Option, Some, None}
use Rattle.mix_bids.specs.Bids.{Book}
use Rattle.mix_bids.specs.declared.bid.Bid.{Bid}
use Rattle.mix_text.specs.Auctions.{AuctionText}
use Rattle.mix_text.specs.Bidders.{list_at, place_of, with_bid_at}
use Rattle.mix_text.specs.Caps.{cap_at}
use Rattle.mix_text.specs.Formats.{limits_of}
use Rattle.mix_text.specs.Reading.{list_limit_of}
use Rattle.mix_text.specs.declared.faults.What.{What}
use Rattle.mix_text.specs.declared.faults.What.TheVariants as what
use Rattle.mix_text.specs.declared.formats.Limits.{Limits}

-- the list over n goods of one bid, and that of none
abbrev pub one_bid : ℕ → Bid → Book
one_bid n bid = record { goods = n; bids = bid ∷ [] }

abbrev pub no_bids : ℕ → Book
no_bids n = record { goods = n; bids = [] }

-- a bid at the end of the list of the bidder at a place; or the first bid of a last bidder of this name, who has no cap and is served last
abbrev pub with_bid_under : AuctionText → List ℕ → Bid → Option ℕ → AuctionText
with_bid_under a name bid (Some k) = record a { bidders = with_bid_at a.bidders k bid }
with_bid_under a name bid None = record a { bidders = a.bidders ++ (name, one_bid (length a.goods) bid) ∷ []; caps = a.caps ++ None ∷ []; order = a.order ++ length a.bidders ∷ [] }

-- the auction with a bid more of this name
abbrev pub with_added : AuctionText → List ℕ → Bid → AuctionText
with_added a name bid = with_bid_under a name bid (place_of name a.bidders)

-- the first limit that a bid passes at the end of the list of the bidder at a place, or as the first of a new bidder
abbrev pub limit_under : Limits → AuctionText → Bid → Option ℕ → Option What
limit_under limits a bid (Some k) = list_limit_of limits (list_at a.bidders k) bid
limit_under limits a bid None = if nat_le limits.bidders (length a.bidders) then Some what.Bidders else list_limit_of limits (no_bids (length a.goods)) bid

-- the first limit of the auction's format that a bid more of this name passes
abbrev pub limit_of_added : AuctionText → List ℕ → Bid → Option What
limit_of_added a name bid = limit_under (limits_of a.format) a bid (place_of name a.bidders)

-- the cap of the bidder of this name, who may have none, or be none
abbrev pub cap_under : AuctionText → Option ℕ → Option ℤ
cap_under a None = None
cap_under a (Some k) = cap_at a.caps k

abbrev pub cap_of_name : AuctionText → List ℕ → Option ℤ
cap_of_name a name = cap_under a (place_of name a.bidders)

-- a place where the bidder at k has left: those behind it stand one place nearer the front
abbrev pub place_without : ℕ → ℕ → ℕ
place_without k j = if nat_lt k j then j - 1 else j

-- the others in the order in which they were
abbrev pub order_without : ℕ → List ℕ → List ℕ
order_without k order = map (place_without k) (filter (λ j. not (j == k)) order)

-- the auction without the bidder at a place, its bids and its cap
abbrev pub without_at : AuctionText → ℕ → AuctionText
without_at a k = record a { bidders = remove a.bidders k; caps = remove a.caps k; order = order_without k a.order }

-- the auction without the bidder of this name, if it is one
abbrev pub without_found : AuctionText → Option ℕ → AuctionText
without_found a None = a
without_found a (Some k) = without_at a k

abbrev pub without : AuctionText → List ℕ → AuctionText
without a name = without_found a (place_of name a.bidders)
