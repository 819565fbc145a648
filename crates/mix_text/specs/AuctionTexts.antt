-- An auction as what its text says.
use Rattle.mix_text.specs.Auctions.{AuctionText}
use Rattle.mix_text.specs.declared.auction.Auction.{Auction}

abbrev pub auction_text : Auction → AuctionText
auction_text a = record { format = a.format; goods = a.goods; supply = a.supply.items; reserve = a.reserve.items; bidders = a.bidders; caps = a.caps; order = a.order }
