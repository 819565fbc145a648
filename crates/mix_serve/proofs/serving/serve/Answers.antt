use Rattle.std.proofs.Common.{ℕ, sym, subst}
use Rattle.mix_text.specs.AuctionTexts.{auction_text}
use Rattle.mix_text.specs.Orders.{IsTieOrder}
use Rattle.mix_market.specs.Markets.{members_of}
use Rattle.mix_clearing.proofs.MarketUtilities.{market_lawful}
use Rattle.mix_serve.proofs.AuctionAnswers.{Solves, solves_auction}
use Rattle.mix_serve.proofs.MembersInOrder.{members_count}
use Rattle.mix_serve.proofs.serving.serve.Goals as goal

-- the tie order is one of the members, who are as many as the bidders
pub answer_at-requires-clause-order : goal.answer_at-requires-clause-order
answer_at-requires-clause-order c =
    let a = auction_text c.args.auction.now in
    subst (λ (n : ℕ). IsTieOrder n a.order) (sym (members_count a (members_of c.args.market.now) c.requires.market.members)) c.args.auction.now.sound.order

-- the answer of the market is one to the auction
solved : (c : goal.In_ok-answer) → Solves (auction_text c.args.auction.now) c.in_ok-answer.answer
solved c = solves_auction (auction_text c.args.auction.now) c.args.market.now c.in_ok-answer.answer c.args.auction.now.sound c.requires.market (market_lawful c.args.market.now) c.in_ok-answer.ensures.answer

pub returns-clause-true_answer : goal.returns-clause-true_answer
returns-clause-true_answer c = (solved c).true_answer

pub returns-clause-shape : goal.returns-clause-shape
returns-clause-shape c = (solved c).shape

pub returns-clause-first_tights : goal.returns-clause-first_tights
returns-clause-first_tights c = (solved c).first_tights

pub returns-clause-worth : goal.returns-clause-worth
returns-clause-worth c = (solved c).worth

pub returns-clause-fractions : goal.returns-clause-fractions
returns-clause-fractions c = (solved c).fractions

pub returns-clause-fair : goal.returns-clause-fair
returns-clause-fair c = (solved c).fair
