use Rattle.std.proofs.Common.{◌∙◌, sym, ap, subst, List, ℕ, All}
use Rattle.mix_num.specs.Orders.{places}
use Rattle.mix_bids.specs.Bids.{Book}
use Rattle.mix_bids.specs.Convexity.{IsConvexList}
use Rattle.mix_text.specs.Auctions.{IsAuction}
use Rattle.mix_text.specs.Bidders.{Named}
use Rattle.mix_text.specs.Caps.{no_caps}
use Rattle.mix_text.specs.Limits.{MeetsLimits}
use Rattle.mix_trial.specs.Trials.{auction}
use Rattle.mix_trial.specs.Words.{words_of}
use Rattle.mix_trial.proofs.ConvexTrials.{bidders_convex}
use Rattle.mix_trial.proofs.TrialAuctions.{auction_drawn, auction_is, auction_meets}
use Rattle.mix_trial.proofs.TrialWords.{auction_listed}
use Rattle.mix_trial.proofs.trial.make.Goals as goal

pub invariant_of-result : goal.invariant_of-result
invariant_of-result c =
    let w = words_of c.seed_from_u64-words.result in
    let same = auction_drawn w _ _ _ _ _ _ _ _ c.in_ok-goods.ensures c.draw_amounts-supply.ensures.value c.draw_amounts-supply.ensures.rest c.draw_amounts-reserve.ensures.value c.draw_amounts-reserve.ensures.rest c.in_ok-bidders.ensures.value (c.in_ok-caps.ensures ∙ ap no_caps c.count.ensures) (c.in_ok-order.ensures ∙ ap places c.count-2.ensures) in
    record { sound = subst IsAuction (sym same) (auction_is w) }

pub returns-clause-text : goal.returns-clause-text
returns-clause-text c =
    let w = words_of c.seed_from_u64-words.result in
    auction_drawn w _ _ _ _ _ _ _ _ c.in_ok-goods.ensures c.draw_amounts-supply.ensures.value c.draw_amounts-supply.ensures.rest c.draw_amounts-reserve.ensures.value c.draw_amounts-reserve.ensures.rest c.in_ok-bidders.ensures.value (c.in_ok-caps.ensures ∙ ap no_caps c.count.ensures) (c.in_ok-order.ensures ∙ ap places c.count-2.ensures)
    ∙ ap (λ g. (auction (words_of g)).0) c.seed_from_u64-words.ensures ∙ auction_listed c.args.seed

pub returns-clause-convex : goal.returns-clause-convex
returns-clause-convex c = subst (λ (bidders : Named). All (λ (b : List ℕ × Book). IsConvexList b.1.bids) bidders) (sym c.in_ok-bidders.ensures.value) (bidders_convex _)

pub returns-clause-limits : goal.returns-clause-limits
returns-clause-limits c =
    let w = words_of c.seed_from_u64-words.result in
    let same = auction_drawn w _ _ _ _ _ _ _ _ c.in_ok-goods.ensures c.draw_amounts-supply.ensures.value c.draw_amounts-supply.ensures.rest c.draw_amounts-reserve.ensures.value c.draw_amounts-reserve.ensures.rest c.in_ok-bidders.ensures.value (c.in_ok-caps.ensures ∙ ap no_caps c.count.ensures) (c.in_ok-order.ensures ∙ ap places c.count-2.ensures) in
    subst MeetsLimits (sym same) (auction_meets w)
