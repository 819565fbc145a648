use Rattle.std.proofs.Common.{◌≡◌, sym, ◌∙◌, arith}
use Rattle.std.proofs.lemmas.Int.{ints}
use Rattle.mix_cap.specs.Cappeds.{cap_of}
use Rattle.mix_text.specs.AuctionTexts.{auction_text}
use Rattle.mix_check.proofs.EitherKind.{capped_stands}
use Rattle.mix_check.proofs.members.member.Goals as goal

pub returns-in_ok-copy-in-Some : goal.returns-in_ok-copy-in-Some
returns-in_ok-copy-in-Some c =
    let is = c.new.ensures.cap in
    let range = c.in-Some.ensures.range in
    let same : cap_of c.new.result ≡ c.in-Some.cap = omega (arith, ints, is, range.0, range.1) in
    capped_stands (auction_text c.args.auction.now) c.args.k c.in-Some.cap c.args.auction.now.sound c.requires (sym c.cap.ensures.value ∙ c.in-Some.is) c.new.result
    (c.new.ensures.list ∙ c.in_ok-copy-in-Some.ensures ∙ c.bidder.ensures.list) same
