use Rattle.std.proofs.Common.{◌≡◌, ℤ, Bool, true, false, Option, Some, None, ap, length, refl, subst, sym}
use Rattle.std.specs.Prelude.{◌&&◌, is_some}
use Rattle.mix_bids.specs.Bids.{IsBid}
use Rattle.mix_text.specs.Auctions.{AuctionText}
use Rattle.mix_text.specs.AuctionTexts.{auction_text}
use Rattle.mix_text.specs.Changes.{cap_of_name}
use Rattle.mix_text.specs.Reading.{is_negative}
use Rattle.mix_text.proofs.ChangedAuctions.{added_auction}
use Rattle.mix_session.specs.Sessions.{SessionText}
use Rattle.mix_session.proofs.session.Session.add.Goals as goal

-- a bid of negative weight that passes the test is of a bidder without a cap
uncapped : (cap : Option ℤ) (negative : Bool) → (is_some cap && negative) ≡ false → negative ≡ true → cap ≡ None
uncapped None negative e h = refl
uncapped (Some cap) true e h = cc e
uncapped (Some cap) false e h = cc h

pub add_to-requires-clause-keeps : goal.add_to-requires-clause-keeps
add_to-requires-clause-keeps c =
    let a = auction_text c.self.inside.auction in
    let name = c.args.name.now.bytes in
    let same : c.args.self.now.auction ≡ a = ap (λ (s : SessionText). s.auction) (sym c.self.view_is) in
    let bid = subst (λ (b : AuctionText). IsBid (length b.goods) c.args.bid) same c.requires.bid in
    added_auction a name c.args.bid c.self.inside.auction.sound c.requires.name bid
    (uncapped (cap_of_name a name) (is_negative c.args.bid) c.in_ok-test_added.ensures.weight)
    c.in_ok-test_added.ensures.limit
