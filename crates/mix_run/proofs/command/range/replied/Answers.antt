use Rattle.std.proofs.Common.{◌≡◌, ◌<◌, inr, rules, subst, arith}
use Rattle.std.proofs.lemmas.Result.{IfOk-weaker}
use Rattle.mix_text.specs.Auctions.{AuctionText}
use Rattle.mix_text.specs.AuctionTexts.{auction_text}
use Rattle.mix_answer.specs.Refusals.{IsTrueRefusal}
use Rattle.mix_own.specs.Owned.{gross_of}
use Rattle.mix_run.specs.command.Range.{IsRanged, IsRanging, as_text}
use Rattle.mix_run.specs.Refusals.{TellsRefusal}
use Rattle.mix_run.specs.Replies.{output_of}
use Rattle.mix_run.proofs.AnswerTrades.{ranged_count}
use Rattle.mix_run.proofs.GrossAuctions.{refusal_of_gross}
use Rattle.mix_run.proofs.command.range.replied.Goals as goal

pub ranged_text-requires : goal.ranged_text-requires
ranged_text-requires c =
    let a = auction_text c.args.range.now.auction in
    let owned = c.args.range.now.owned in
    let ceiling = c.args.range.now.ceiling.items in
    let ranged = c.in_ok-ranged-in-Market.ranged in
    let is : IsRanged (gross_of a owned) owned ceiling ranged = subst (λ (g : AuctionText). IsRanged g owned ceiling ranged) c.in_ok-gross.ensures.value c.in_ok-ranged-in-Market.ensures in
    ranged_count (gross_of a owned) owned ceiling ranged is c.requires.owned.count

pub refused_bidder-requires-clause-truth : goal.refused_bidder-requires-clause-truth
refused_bidder-requires-clause-truth c =
    let a = auction_text c.args.range.now.auction in
    let owned = c.args.range.now.owned in
    let r = c.in-Refused.refusal in
    let truth : IsTrueRefusal (auction_text c.in_ok-gross.gross) r = search rules in
    refusal_of_gross a owned r (subst (λ (g : AuctionText). IsTrueRefusal g r) c.in_ok-gross.ensures.value truth)

pub returns-clause-output : goal.returns-clause-output
returns-clause-output c =
    IfOk-weaker c.refused_bidder.result (λ reply. TellsRefusal (auction_text c.args.range.now.auction) (output_of reply)) (λ reply. IsRanging (as_text c.args.range.now) (output_of reply))
    (λ reply refused. inr refused) c.refused_bidder.ensures.output

pub returns-clause-status : goal.returns-clause-status
returns-clause-status c = IfOk-weaker c.refused_bidder.result (λ reply. reply.status ≡ 1) (λ reply. reply.status < 2) (λ reply one. omega (arith, one)) c.refused_bidder.ensures.status
