-- What the checker says of an outcome, and what follows where it says yes.
use Rattle.std.specs.Prelude.{map}
use Rattle.mix_clearing.specs.Fairness.{IsFair}
use Rattle.mix_clearing.specs.Scales.{AreLeastOfFractions}
use Rattle.mix_clearing.specs.Values.{AreWorthMost}
use Rattle.mix_text.specs.Auctions.{AuctionText}
use Rattle.mix_answer.specs.Truths.{IsTrueOutcome, bundles_of}
use Rattle.mix_answer.specs.Utilities.{scaled_utilities_of, utilities_of}
use Rattle.mix_answer.specs.declared.outcome.Outcome.{Outcome}
use Rattle.mix_answer.specs.declared.outcome.Outcome.TheVariants.{Cleared, Refused}
use Rattle.mix_check.specs.declared.reason.Verdict.{Verdict}
use Rattle.mix_check.specs.declared.reason.Verdict.TheVariants.{No, Yes}
use Rattle.mix_check.specs.Orders.{IsFirstReason}

-- the reason that is given, if one is, is the first that holds
abbrev pub GivesFirstReason : AuctionText → Outcome → Verdict → Type 0
GivesFirstReason a outcome Yes = Unit {0}
GivesFirstReason a outcome (No reason) = IsFirstReason a outcome reason

-- yes where the outcome is true, and else no with the first reason. For proofs; no public clause rests on it.
abbrev pub IsVerdict : AuctionText → Outcome → Verdict → Type 0
IsVerdict a outcome Yes = IsTrueOutcome a outcome
IsVerdict a outcome (No reason) = ¬ IsTrueOutcome a outcome × IsFirstReason a outcome reason

-- no allocation of the supply is worth more than that of an answer
abbrev pub IsWorthMost : AuctionText → Outcome → Type 0
IsWorthMost a (Refused r) = Unit {0}
IsWorthMost a (Cleared answer) = AreWorthMost (utilities_of a) a.supply a.reserve (bundles_of answer) answer.returns.items

-- no prices with fractions clear below those of an answer
abbrev pub IsLeastOfFractions : AuctionText → Outcome → Type 0
IsLeastOfFractions a (Refused r) = Unit {0}
IsLeastOfFractions a (Cleared answer) = AreLeastOfFractions (scaled_utilities_of a) a.supply a.reserve answer.prices.items

-- an answer is fair: to no bidder is any other bundle at its cost worth more, nor are any other prices that clear
abbrev pub IsFairOutcome : AuctionText → Outcome → Type 0
IsFairOutcome a (Refused r) = Unit {0}
IsFairOutcome a (Cleared answer) =
    IsFair (scaled_utilities_of a) a.supply a.reserve answer.prices.items (bundles_of answer) (map (λ share. share.payment) answer.shares) answer.returns.items
