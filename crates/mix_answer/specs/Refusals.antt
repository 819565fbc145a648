-- Which bidders of an auction are convex, and which refusals of it are true.
use Rattle.std.specs.Prelude.{◌<◌, ℕ, length}
use Rattle.mix_bids.specs.Facets.{IsNegativeFacet}
use Rattle.mix_text.specs.Auctions.{AuctionText}
use Rattle.mix_text.specs.Bidders.{list_at}
use Rattle.mix_answer.specs.Utilities.{IsConvexEntrant, entrant_at}
use Rattle.mix_answer.specs.declared.refusal.Refusal.{Refusal}

-- each bidder before a place is convex
abbrev pub AreConvexBefore : AuctionText → ℕ → Type 0
AreConvexBefore a k = (j : ℕ) → j < k → IsConvexEntrant (entrant_at a j)

-- each bidder is convex
abbrev pub AreConvex : AuctionText → Type 0
AreConvex a = AreConvexBefore a (length a.bidders)

-- a refusal tells of the first bidder that isn't convex, and of a facet of its list that has negative weight
pub record IsTrueRefusal (a : AuctionText) (r : Refusal) : Type 0 where
  pub bidder : r.bidder < length a.bidders
  pub first : AreConvexBefore a r.bidder
  pub refused : ¬ IsConvexEntrant (entrant_at a r.bidder)
  pub facet : IsNegativeFacet (list_at a.bidders r.bidder) r.first r.second r.prices.items r.weight
