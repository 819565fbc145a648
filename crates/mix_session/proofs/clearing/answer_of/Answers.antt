use Rattle.std.proofs.Common.{List, ℤ, sym, subst}
use Rattle.mix_text.specs.AuctionTexts.{auction_text}
use Rattle.mix_market.specs.Lyapunov.{lyapunov}
use Rattle.mix_answer.specs.Utilities.{utilities_of}
use Rattle.std.proofs.Common.{length}
use Rattle.mix_session.proofs.AuctionSteps.{AreFoundInSteps, steps_of_auction}
use Rattle.mix_session.proofs.clearing.answer_of.Goals as goal

pub returns-clause-cost : goal.returns-clause-cost
returns-clause-cost g c =
    let a = auction_text c.args.auction.now in
    let found = steps_of_auction a c.args.market.now c.args.last.now.items c.settle-prices.result.items c.args.steps.now c.settle-prices.new.steps c.args.auction.now.sound c.requires.market c.settle-prices.ensures.cost in
    subst (λ (prices : List ℤ). AreFoundInSteps (length a.goods) (lyapunov (utilities_of a) a.supply) c.args.last.now.items prices c.args.steps.now c.settle-prices.new.steps) (sym c.in_ok-answer.ensures.prices) found
