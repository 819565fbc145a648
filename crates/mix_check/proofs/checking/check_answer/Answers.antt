use Rattle.mix_text.specs.AuctionTexts.{auction_text}
use Rattle.mix_check.proofs.Truths.{answer_untrue}
use Rattle.mix_check.proofs.checking.check_answer.Goals as goal

pub returns : goal.returns
returns c =
    let first = c.in-Err.ensures.reason in
    (answer_untrue (auction_text c.args.auction.now) c.args.answer.now c.args.auction.now.sound c.requires c.in-Err.reason first.holds, first)
