use Rattle.std.proofs.Common.{◌∙◌, ap}
use Rattle.std.specs.Option.{is_some}
use Rattle.mix_bids.specs.Offers.{offer}
use Rattle.mix_bids.proofs.Gathered.{gathered_step}
use Rattle.mix_bids.proofs.counts.offers.Goals as goal

pub loop-choice-preserved : goal.loop-choice-preserved
loop-choice-preserved c = gathered_step c.loop-choice.choice _ _ (λ k. is_some (offer c.args.bid.now.values.items k)) _ (c.is_some.ensures ∙ ap is_some c.offer.ensures.value) c.loop-choice.invariant c.with_where-set.ensures
