-- Which auctions keep to the limits of their format.
use Rattle.std.specs.Prelude.{◌≡◌, ◌≤◌, false, length, count_by, All}
use Rattle.mix_bids.specs.Bids.{Book}
use Rattle.mix_bids.specs.Cells.{cells}
use Rattle.mix_text.specs.Auctions.{AuctionText}
use Rattle.mix_text.specs.Formats.{is_past, limits_of}
use Rattle.mix_text.specs.Reading.{is_negative}
use Rattle.mix_text.specs.declared.formats.Limits.{Limits}

-- the list of a bidder: not too many bids, not too many of them negative, and not too many cells
pub record BidsMeet (limits : Limits) (list : Book) : Type 0 where
  pub bids : length list.bids ≤ limits.bids
  pub negatives : is_past limits.negatives (count_by is_negative list.bids) ≡ false
  pub cells : is_past limits.cells (cells list) ≡ false

-- an auction: not too many goods, not too many bidders, and the list of each bidder meets the limits
pub record MeetsLimits (a : AuctionText) : Type 0 where
  pub goods : length a.goods ≤ (limits_of a.format).goods
  pub bidders : length a.bidders ≤ (limits_of a.format).bidders
  pub lists : All (λ bidder. BidsMeet (limits_of a.format) bidder.1) a.bidders
