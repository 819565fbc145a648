use Rattle.std.proofs.Common.{subst}
use Rattle.mix_text.specs.AuctionTexts.{auction_text}
use Rattle.mix_answer.specs.Truths.{HaveFirstTights, IsTrueOutcome}
use Rattle.mix_serve.specs.Solved.{OfAnswer}
use Rattle.mix_run.proofs.TrialOutputs.{trial_output}
use Rattle.mix_run.proofs.command.trial.trial_text.Goals as goal

pub returns : goal.returns
returns c =
    let a = auction_text c.in_ok-auction.auction in
    let true_outcome = subst (λ o. IsTrueOutcome a o) c.in-Cleared.is c.in_ok-answer.ensures.true_outcome in
    let first_tights = subst (λ o. OfAnswer (HaveFirstTights a) o) c.in-Cleared.is c.in_ok-answer.ensures.first_tights in
    trial_output (λ v. v.items) c.args.number _ c.in-Cleared.answer c.summary.result c.in_ok-auction.ensures.text true_outcome first_tights c.summary.ensures
