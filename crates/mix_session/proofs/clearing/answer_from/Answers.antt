use Rattle.std.proofs.Common.{◌∙◌, List, ℤ, length, map, ap, sym}
use Rattle.mix_cap.specs.declared.member.Member.{Member}
use Rattle.mix_text.specs.AuctionTexts.{auction_text}
use Rattle.mix_seller.specs.Sellers.{reserve_of, supply_of}
use Rattle.mix_seller.specs.declared.seller.Seller.{Seller}
use Rattle.mix_serve.specs.Admissions.{entrant_of}
use Rattle.mix_serve.proofs.MembersInOrder.{same_goods}
use Rattle.mix_session.proofs.KnownBidders.{all_convex, members_of_all}
use Rattle.mix_session.proofs.clearing.answer_from.Goals as goal

pub new-market-requires-clause-same_goods : goal.new-market-requires-clause-same_goods
new-market-requires-clause-same_goods g c = λ k none h.
    let a = auction_text c.args.auction.now in
    let members = c.in_ok-members.members.items in
    let sound = c.args.auction.now.sound in
    same_goods a members sound (members_of_all a c.args.standings.now members c.requires.stand c.in_ok-members.ensures.members) k none h
    ∙ sym sound.supply.0
    ∙ ap (λ (supply : List ℤ). length supply) (sym c.new.ensures.supply)

pub answer_of-answer-requires-clause-market : goal.answer_of-answer-requires-clause-market
answer_of-answer-requires-clause-market g c =
    let a = auction_text c.args.auction.now in
    let members = c.in_ok-members.members.items in
    record {
      convex = all_convex a c.args.standings.now c.requires.stand c.requires.convex;
      members = ap (λ (list : List Member). map entrant_of list) c.new-market.ensures.members ∙ members_of_all a c.args.standings.now members c.requires.stand c.in_ok-members.ensures.members;
      supply = ap (λ (seller : Seller). supply_of seller) c.new-market.ensures.seller ∙ c.new.ensures.supply;
      reserve = ap (λ (seller : Seller). reserve_of seller) c.new-market.ensures.seller ∙ c.new.ensures.reserve;
    }
