use Rattle.std.proofs.Common.{sym, ◌∙◌, length}
use Rattle.mix_text.specs.AuctionTexts.{auction_text}
use Rattle.mix_text.specs.Auctions.{IsAuction}
use Rattle.mix_text.specs.Bidders.{list_at}
use Rattle.mix_text.specs.Caps.{cap_at}
use Rattle.mix_cap.proofs.UnderCaps.{capped_convex}
use Rattle.mix_answer.proofs.TrueRefusals.{list_at_ok}
use Rattle.mix_serve.proofs.admission.admit_bidder.Goals as goal

-- a bidder with a cap is convex
pub returns-in-Some-clause-convex : goal.returns-in-Some-clause-convex
returns-in-Some-clause-convex c =
    let a = auction_text c.args.auction.now in
    let k = c.args.k in
    let sound : IsAuction a = c.args.auction.now.sound in
    let e = sym c.cap.ensures.value ∙ c.in-Some.is in
    capped_convex (length a.goods) (cap_at a.caps k) c.in-Some.cap (list_at a.bidders k).bids (list_at_ok a k sound c.requires).bids (sound.caps.positive k c.in-Some.cap e) e
