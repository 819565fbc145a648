use Rattle.std.proofs.lemmas.Result.{IfOk-weaker}
use Rattle.mix_text.specs.AuctionTexts.{auction_text}
use Rattle.mix_check.proofs.Truths.{true_answer}
use Rattle.mix_check.proofs.checking.passes.Goals as goal

pub returns-clause-passed : goal.returns-clause-passed
returns-clause-passed c = IfOk-weaker _ _ _
    (λ done tights. true_answer (auction_text c.args.auction.now) c.args.answer.now c.args.auction.now.sound c.requires.shape c.requires.convex
    c.in_ok-above_reserves.ensures.passed c.in_ok-add_up.ensures.passed c.in_ok-returned_at_reserves.ensures.passed c.in_ok-demanded.ensures.passed c.in_ok-none_lower.ensures.passed c.in_ok-paid.ensures.passed tights)
    c.tight.ensures.passed
