use Rattle.std.proofs.Common.{ap, rules, subst}
use Rattle.mix_text.specs.Auctions.{AuctionText}
use Rattle.mix_text.specs.AuctionTexts.{auction_text}
use Rattle.mix_answer.specs.Refusals.{IsTrueRefusal}
use Rattle.mix_answer.specs.Shapes.{FitsAuction}
use Rattle.mix_answer.specs.Truths.{HaveFirstTights, IsTrueAnswer}
use Rattle.mix_answer.proofs.TrueRefusals.{fits}
use Rattle.mix_session.specs.Sessions.{SessionText}
use Rattle.mix_session.proofs.session.Session.clear.Goals as goal

pub returns-in-Some-clause-shape : goal.returns-in-Some-clause-shape
returns-in-Some-clause-shape g c =
    let refused : IsTrueRefusal (auction_text c.self.inside.auction) c.in-Some.refusal = search rules in
    subst (λ (a : AuctionText). FitsAuction a c.in-Some.refusal) (ap (λ (s : SessionText). s.auction) c.self.view_is) (fits (auction_text c.self.inside.auction) c.in-Some.refusal c.self.inside.auction.sound refused)

pub returns-clause-true_outcome : goal.returns-clause-true_outcome
returns-clause-true_outcome g c = subst (λ (a : AuctionText). IsTrueAnswer a c.in_ok-answer.answer) (ap (λ (s : SessionText). s.auction) c.self.view_is) c.in_ok-answer.ensures.true_answer

pub returns-clause-first_tights : goal.returns-clause-first_tights
returns-clause-first_tights g c = subst (λ (a : AuctionText). HaveFirstTights a c.in_ok-answer.answer) (ap (λ (s : SessionText). s.auction) c.self.view_is) c.in_ok-answer.ensures.first_tights
