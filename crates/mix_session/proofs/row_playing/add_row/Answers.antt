use Rattle.std.proofs.Common.{◌≡◌, ◌∙◌, ℕ, Ok, ap, inr, length, refl, subst}
use Rattle.mix_bids.specs.Bids.{IsBid}
use Rattle.mix_text.specs.Auctions.{AuctionText}
use Rattle.mix_text.specs.Reading.{NamedBid, bid_of}
use Rattle.mix_text.proofs.Sound.{bid_ok}
use Rattle.mix_session.specs.Additions.{IsWhyNot}
use Rattle.mix_session.specs.Sessions.{SessionText}
use Rattle.mix_session.proofs.SessionRows.{added_heavy, added_more, added_past, added_wrong, has_field}
use Rattle.mix_session.proofs.row_playing.add_row.Goals as goal

pub returns-in-Err-clause-wrong : goal.returns-in-Err-clause-wrong
returns-in-Err-clause-wrong c =
    let size = c.len.ensures ∙ ap (λ (a : AuctionText). length a.goods) c.auction.ensures in
    inr (added_wrong c.args.session.now.auction c.args.row.now c.in-Err.code (rw size at c.in-Err.ensures.wrong) ∙ rw (c.fault.ensures, c.number.ensures) refl)

pub add-requires-clause-name : goal.add-requires-clause-name
add-requires-clause-name c = (bid_ok _ c.args.row.now.fields _ c.in-Ok.ensures.read).name

pub add-requires-clause-bid : goal.add-requires-clause-bid
add-requires-clause-bid c =
    let size = c.len.ensures ∙ ap (λ (a : AuctionText). length a.goods) c.auction.ensures in
    subst (λ (n : ℕ). IsBid n c.in-Ok.named.1) size (bid_ok _ c.args.row.now.fields _ c.in-Ok.ensures.read).bid

pub returns-in-Ok-add-clause-read : goal.returns-in-Ok-add-clause-read
returns-in-Ok-add-clause-read c =
    let size = c.len.ensures ∙ ap (λ (a : AuctionText). length a.goods) c.auction.ensures in
    let b : NamedBid = record { name = c.in-Ok.named.0.bytes; bid = c.in-Ok.named.1 } in
    let read = subst (λ (n : ℕ). bid_of n c.args.row.now.fields ≡ Ok b) size c.in-Ok.ensures.read in
    added_more c.args.session.now.auction c.add.new.self.auction c.args.row.now b read c.in-Ok-add.ensures.light c.in-Ok-add.ensures.limit (ap (λ (s : SessionText). s.auction) c.in-Ok-add.ensures.ok)

pub returns-in-Err-Weight-clause-wrong : goal.returns-in-Err-Weight-clause-wrong
returns-in-Err-Weight-clause-wrong c =
    let a = c.args.session.now.auction in
    let size = c.len.ensures ∙ ap (λ (a : AuctionText). length a.goods) c.auction.ensures in
    let b : NamedBid = record { name = c.in-Ok.named.0.bytes; bid = c.in-Ok.named.1 } in
    let read = subst (λ (n : ℕ). bid_of n c.args.row.now.fields ≡ Ok b) size c.in-Ok.ensures.read in
    let heavy = subst (IsWhyNot a b.name b.bid) c.in-Err-Weight.field-0-is c.in-Err-Weight.ensures.why in
    inr (added_heavy a c.args.row.now b read heavy ∙ rw (c.fault-in-Err-Weight.ensures, c.number-in-Err-Weight.ensures) refl)

pub returns-in-Err-Limit-clause-wrong : goal.returns-in-Err-Limit-clause-wrong
returns-in-Err-Limit-clause-wrong c =
    let a = c.args.session.now.auction in
    let size = c.len.ensures ∙ ap (λ (a : AuctionText). length a.goods) c.auction.ensures in
    let b : NamedBid = record { name = c.in-Ok.named.0.bytes; bid = c.in-Ok.named.1 } in
    let read = subst (λ (n : ℕ). bid_of n c.args.row.now.fields ≡ Ok b) size c.in-Ok.ensures.read in
    let past = subst (IsWhyNot a b.name b.bid) c.in-Err-Limit.field-0-is c.in-Err-Limit.ensures.why in
    inr (added_past a c.args.row.now b c.in-Err-Limit.what read past.0 past.1 ∙ rw (c.limit.ensures, c.number-in-Err-Limit.ensures) refl)

pub read_bid-requires-clause-field : goal.read_bid-requires-clause-field
read_bid-requires-clause-field c = has_field c.args.row.now.fields c.requires
