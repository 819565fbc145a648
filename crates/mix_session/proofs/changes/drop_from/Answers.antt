use Rattle.std.proofs.Common.{◌∙◌, sym, subst}
use Rattle.mix_text.specs.Auctions.{AuctionText}
use Rattle.mix_text.specs.AuctionTexts.{auction_text}
use Rattle.mix_session.specs.Standings.{AreStandings}
use Rattle.mix_session.proofs.ChangedStandings.{left}
use Rattle.mix_session.proofs.changes.drop_from.Goals as goal

pub returns-clause-stand : goal.returns-clause-stand
returns-clause-stand c =
    let a = auction_text c.args.auction.now in
    let stand = left a c.args.standings.now.items c.remove.new.self.items c.args.name.now.bytes c.in-Some.k c.args.auction.now.sound c.requires (sym c.find.ensures.place ∙ c.in-Some.is) c.remove.ensures.items in
    subst (λ (b : AuctionText). AreStandings b c.remove.new.self.items) (sym c.drop_bidder.ensures.dropped) stand
