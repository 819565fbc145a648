use Rattle.std.proofs.Common.{arith}
use Rattle.mix_text.specs.AuctionTexts.{auction_text}
use Rattle.mix_check.proofs.FirstFailures.{turn_failed, turn_passed, turn_passed_over}
use Rattle.mix_check.proofs.pairs.first_failure.Goals as goal

pub returns-then-bidder-first : goal.returns-then-bidder-first
returns-then-bidder-first c =
    turn_passed_over (auction_text c.args.auction.now) c.args.answer.now c.args.turn c.args.first c.requires.first (let after = c.if-bidder-first.true in omega (arith, after, c.bidder_at-bidder.ensures.place))

pub returns-in-Ok : goal.returns-in-Ok
returns-in-Ok c = turn_passed (auction_text c.args.auction.now) c.args.answer.now c.args.turn c.args.first c.requires.first c.in-Ok.ensures.passed

pub returns-in-Err : goal.returns-in-Err
returns-in-Err c =
    turn_failed (auction_text c.args.auction.now) c.args.answer.now c.args.turn c.args.first c.requires.first c.bidder_at-bidder.result c.in-Err.reason c.requires.inside c.bidder_at-bidder.ensures.place
    c.if-bidder-first.false c.in-Err.ensures.reason
