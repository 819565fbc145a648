use Rattle.mix_text.specs.AuctionTexts.{auction_text}
use Rattle.mix_answer.specs.Refusals.{AreConvexBefore}
use Rattle.mix_check.specs.Tests.{IsFirstInvalid}
use Rattle.mix_check.proofs.FirstReasons.{earlier_first}
use Rattle.mix_check.proofs.Truths.{refusal_untrue, true_refusal, weight-same}
use Rattle.mix_check.specs.declared.reason.Reason.TheVariants.{Earlier}
use Rattle.mix_check.proofs.checking.check_refusal.Goals as goal

pub returns-in-Some : goal.returns-in-Some
returns-in-Some c =
    let found : IsFirstInvalid (auction_text c.args.auction.now) c.args.refusal.now.bidder c.in-Some.bidder = rw c.in-Some.is at c.in_ok-bidder.ensures in
    let same = weight-same (auction_text c.args.auction.now) c.args.refusal.now c.requires c.bidder.result.1.now c.bidder.ensures.list c.facet_weight-weight.result c.facet_weight-weight.ensures.value c.facet_weight-weight.ensures.range c.if-weight-refusal.false in
    let first = earlier_first (auction_text c.args.auction.now) c.args.refusal.now c.in-Some.bidder same found in
    (refusal_untrue (auction_text c.args.auction.now) c.args.refusal.now (Earlier c.in-Some.bidder) first.holds, first)

pub returns-in-None : goal.returns-in-None
returns-in-None c =
    let none : AreConvexBefore (auction_text c.args.auction.now) c.args.refusal.now.bidder = rw c.in-None.is at c.in_ok-bidder.ensures in
    let same = weight-same (auction_text c.args.auction.now) c.args.refusal.now c.requires c.bidder.result.1.now c.bidder.ensures.list c.facet_weight-weight.result c.facet_weight-weight.ensures.value c.facet_weight-weight.ensures.range c.if-weight-refusal.false in
    true_refusal (auction_text c.args.auction.now) c.args.refusal.now c.args.auction.now.sound c.requires same none
