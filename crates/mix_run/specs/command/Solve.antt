-- What the command `solve` gives.
use Rattle.std.specs.Prelude.{◌≡◌, ℕ, List, Ok}
use Rattle.mix_text.specs.Auctions.{AuctionText}
use Rattle.mix_answer.specs.Outcomes.{outcome_text}
use Rattle.mix_answer.specs.declared.outcome.Outcome.{Outcome}
use Rattle.mix_answer.specs.declared.outcome.Outcome.TheVariants.{Cleared, Refused}
use Rattle.mix_serve.specs.Solved.{IsSolved}
use Rattle.mix_run.specs.Outputs.{Output}
use Rattle.mix_run.specs.Readings.{auction_alone}

-- 0 of an auction that is cleared, 1 of one that is refused
abbrev pub outcome_status : Outcome → ℕ
outcome_status (Cleared answer) = 0
outcome_status (Refused refusal) = 1

-- the output of `solve` for an auction: the text of a true outcome with the first tight pairs
abbrev pub IsSolving : AuctionText → Output → Type 0
IsSolving a output =
    (outcome : Outcome) × IsSolved a outcome × (output ≡ record { status = outcome_status outcome; bytes = outcome_text a outcome })

-- the output of `solve` for a text of an auction alone
abbrev pub IsSolvingOf : List ℕ → Output → Type 0
IsSolvingOf text output = (a : AuctionText) × (auction_alone text ≡ Ok a) × IsSolving a output
