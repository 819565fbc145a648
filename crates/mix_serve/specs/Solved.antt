-- What comes of solving an auction.
use Rattle.mix_text.specs.Auctions.{AuctionText}
use Rattle.mix_answer.specs.Truths.{HaveFirstTights, IsTrueOutcome}
use Rattle.mix_answer.specs.declared.outcome.Answer.{Answer}
use Rattle.mix_answer.specs.declared.outcome.Outcome.{Outcome}
use Rattle.mix_answer.specs.declared.outcome.Outcome.TheVariants.{Cleared, Refused}

-- the outcome is a refusal, or it is an answer
abbrev pub IsRefusal : Outcome → Type 0
IsRefusal (Refused r) = Unit {0}
IsRefusal (Cleared answer) = ⊥

abbrev pub IsCleared : Outcome → Type 0
IsCleared (Refused r) = ⊥
IsCleared (Cleared answer) = Unit {0}

-- the answer, where the outcome is one, passes a test
abbrev pub OfAnswer : (Answer → Type 0) → Outcome → Type 0
OfAnswer P (Refused r) = Unit {0}
OfAnswer P (Cleared answer) = P answer

-- the outcome is true, and its pairs, where it has any, are the first tight ones
abbrev pub IsSolved : AuctionText → Outcome → Type 0
IsSolved a outcome = IsTrueOutcome a outcome × OfAnswer (HaveFirstTights a) outcome
