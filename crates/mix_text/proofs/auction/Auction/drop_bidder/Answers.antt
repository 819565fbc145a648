use Rattle.std.proofs.Common.{◌≡◌, ◌∙◌, sym, subst, ℕ, ℤ, List, Option, Some}
use Rattle.std.specs.Prelude.{remove}
use Rattle.mix_text.specs.Auctions.{IsAuction}
use Rattle.mix_text.specs.AuctionTexts.{auction_text}
use Rattle.mix_text.specs.Bidders.{Named, place_of}
use Rattle.mix_text.specs.Changes.{order_without}
use Rattle.mix_text.proofs.ChangedAuctions.{found_below, without_auction}
use Rattle.mix_text.proofs.auction.Auction.drop_bidder.Goals as goal

pub invariant_of-self : goal.invariant_of-self
invariant_of-self c =
    let a = auction_text c.args.self.now in
    let k = c.in-Some.k in
    let place : place_of c.args.name.now.bytes a.bidders ≡ Some k = sym c.find.ensures.place ∙ c.in-Some.is in
    let left = without_auction a k c.args.self.now.sound (found_below c.args.name.now.bytes a.bidders k place) in
    let bidders = subst (λ (z : Named). IsAuction (record a { bidders = z; caps = remove a.caps k; order = order_without k a.order })) (sym c.remove.ensures) left in
    let caps = subst (λ (z : List (Option ℤ)). IsAuction (record a { bidders = c.remove.new.self; caps = z; order = order_without k a.order })) (sym c.remove-2.ensures) bidders in
    record { sound = subst (λ (z : List ℕ). IsAuction (record a { bidders = c.remove.new.self; caps = c.remove-2.new.self; order = z })) (sym c.remove-3.ensures) caps }
