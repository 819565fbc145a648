use Rattle.std.proofs.Common.{◌∙◌, sym}
use Rattle.mix_text.specs.AuctionTexts.{auction_text}
use Rattle.mix_text.proofs.ChangedAuctions.{list_has_room}
use Rattle.mix_text.proofs.auction.Auction.add_bid.Goals as goal

pub push-requires-clause-room : goal.push-requires-clause-room
push-requires-clause-room c = list_has_room (auction_text c.args.self.now) c.args.name.now.bytes c.args.bid c.in-Some.k (sym c.find.ensures.place ∙ c.in-Some.is) c.requires.keeps
