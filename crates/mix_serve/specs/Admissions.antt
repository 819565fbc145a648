-- What comes of taking in the bidders of an auction.
use Rattle.std.specs.Prelude.{◌≡◌, ℕ, map, Some, None}
use Rattle.mix_law.specs.declared.convex.Convex.{Ghosts}
use Rattle.mix_bids.specs.Bids.{Book}
use Rattle.mix_bids.specs.Convexity.{IsConvexList}
use Rattle.mix_bids.specs.Facets.{IsNegativeFacet}
use Rattle.mix_validity.specs.ValidLists.{book_of as list_of}
use Rattle.mix_cap.specs.Cappeds.{book_of, cap_of}
use Rattle.mix_cap.specs.declared.member.Member.{Member}
use Rattle.mix_cap.specs.declared.member.Member.TheVariants.{Capped, List as Listed}
use Rattle.mix_text.specs.Auctions.{AuctionText}
use Rattle.mix_text.specs.Bidders.{list_at}
use Rattle.mix_seller.specs.Sellers.{reserve_of, supply_of}
use Rattle.mix_market.specs.Markets.{members_of, seller_of}
use Rattle.mix_market.specs.declared.market.Market.{Market as MarketOf}
use Rattle.mix_answer.specs.Shapes.{FitsAuction}
use Rattle.mix_answer.specs.Refusals.{AreConvex, IsTrueRefusal}
use Rattle.mix_answer.specs.Utilities.{Entrant, IsConvexEntrant, entrant_at, entrants_of}
use Rattle.mix_serve.specs.declared.admission.Admitted.{Admitted}
use Rattle.mix_serve.specs.declared.admission.Admitted.TheVariants.{Market, Refused}
use Rattle.mix_serve.specs.declared.admission.Stopped.{Stopped}
use Rattle.mix_serve.specs.declared.admission.Stopped.TheVariants.{Memory, Refused as RefusedOne}

-- the bidder that a member stands for: a list without a cap, or one with its cap
abbrev pub entrant_of : Member → Entrant
entrant_of (Listed valid) = record { list = list_of valid; cap = None }
entrant_of (Capped capped) = record { list = book_of capped; cap = Some (cap_of capped) }

-- the market of an auction: its bidders in order, each of them convex, and its seller
pub record IsMarketOf {g : Ghosts Member} (a : AuctionText) (market : MarketOf Member g) : Type 0 where
  pub convex : AreConvex a
  pub members : map entrant_of (members_of market) ≡ entrants_of a
  pub supply : supply_of (seller_of market) ≡ a.supply
  pub reserve : reserve_of (seller_of market) ≡ a.reserve

-- a true refusal of the auction, of its shape; or its market
abbrev pub IsAdmitted : AuctionText → Admitted → Type 0
IsAdmitted a (Refused r) = IsTrueRefusal a r × FitsAuction a r
IsAdmitted a (Market market) = IsMarketOf a market

-- a true refusal of the first bidder that isn't convex; of want of memory nothing is said
abbrev pub IsRefusedFirst : AuctionText → Stopped → Type 0
IsRefusedFirst a (RefusedOne r) = IsTrueRefusal a r
IsRefusedFirst a Memory = Unit {0}

-- the bidder at a place isn't convex, and a facet of its list has negative weight; of want of memory nothing is said
abbrev pub IsRefusedAt : AuctionText → ℕ → Stopped → Type 0
IsRefusedAt a k (RefusedOne r) = (r.bidder ≡ k) × ¬ IsConvexEntrant (entrant_at a k) × IsNegativeFacet (list_at a.bidders k) r.first r.second r.prices.items r.weight
IsRefusedAt a k Memory = Unit {0}

-- a list isn't convex, and a facet of it has negative weight: so its bidder, at a place, is refused; of want of memory nothing is said
abbrev pub IsListRefused : Book → ℕ → Stopped → Type 0
IsListRefused list k (RefusedOne r) = (r.bidder ≡ k) × ¬ IsConvexList list.bids × IsNegativeFacet list r.first r.second r.prices.items r.weight
IsListRefused list k Memory = Unit {0}
