-- Auctions that differ from others, and whose prices therefore answer to it.
use Rattle.std.specs.Prelude.{◌≡◌, ◌≤ℤ◌, true, pos, List, [], ◌∷◌, None, length}
use Rattle.mix_bids.specs.Bids.{IsBid}
use Rattle.mix_text.specs.Auctions.{AuctionText}
use Rattle.mix_text.specs.Changes.{cap_of_name, limit_of_added, with_added}
use Rattle.mix_text.specs.Reading.{NamedBid}
use Rattle.mix_text.specs.Spelling.{is_name}
use Rattle.mix_answer.specs.Utilities.{utilities_of}
use Rattle.mix_clearing.specs.Scarcity.{IsScarcer}

-- the second auction is scarcer: the same number of goods, no less is wanted, no more is offered, no reserve is lower
abbrev pub IsScarcerAuction : AuctionText → AuctionText → Type 0
IsScarcerAuction a b = IsScarcer (utilities_of a) a.supply a.reserve (utilities_of b) b.supply b.reserve

-- bids added one after the other, each at the end of its bidder's list
abbrev pub with_all : AuctionText → List NamedBid → AuctionText
with_all a [] = a
with_all a (b ∷ bids) = with_all (with_added a b.name b.bid) bids

-- a bid of positive weight that may be added, of a bidder who has no cap or is new
pub record IsAdded (a : AuctionText) (b : NamedBid) : Type 0 where
  pub name : is_name b.name ≡ true
  pub bid : IsBid (length a.goods) b.bid
  pub weight : pos 0 ≤ℤ b.bid.weight
  pub uncapped : cap_of_name a b.name ≡ None
  pub within : limit_of_added a b.name b.bid ≡ None

-- each of them where its turn comes
abbrev pub AreAdded : AuctionText → List NamedBid → Type 0
AreAdded a [] = Unit {0}
AreAdded a (b ∷ bids) = IsAdded a b × AreAdded (with_added a b.name b.bid) bids
