-- What the command `check` gives.
use Rattle.std.specs.Prelude.{◌≡◌, ◌<◌, ◌⊎◌, ℕ, length, List, [], ◌∷◌, pos, slice_index_or, Ok, Err, Result, codes}
use Rattle.std.specs.Fmt.{signed_decimal}
use Rattle.mix_text.specs.Auctions.{AuctionText}
use Rattle.mix_text.specs.Bidders.{name_at}
use Rattle.mix_text.specs.Reading.{◌>>=◌, reading_of}
use Rattle.mix_text.specs.Rows.{rows_of}
use Rattle.mix_text.specs.declared.faults.TextError.{TextError}
use Rattle.mix_text.specs.declared.faults.TextError.TheVariants as error
use Rattle.mix_answer.specs.Readings.{outcome_after}
use Rattle.mix_answer.specs.Truths.{IsTrueOutcome}
use Rattle.mix_answer.specs.declared.faults.OutcomeError.{OutcomeError}
use Rattle.mix_answer.specs.declared.faults.OutcomeError.TheVariants as wrong
use Rattle.mix_answer.specs.declared.outcome.Outcome.{Outcome}
use Rattle.mix_check.specs.Orders.{IsFirstReason}
use Rattle.mix_check.specs.declared.reason.Reason.{Reason}
use Rattle.mix_check.specs.declared.reason.Reason.TheVariants as reason
use Rattle.mix_run.specs.Outputs.{Output, one_row}

-- what is read, where no row of an outcome has a fault
abbrev pub or_wrong : {X : Type 0} → Result X OutcomeError → Result X TextError
or_wrong (Ok x) = Ok x
or_wrong (Err (wrong.Fault fault)) = Err (error.Fault fault)
or_wrong (Err wrong.Memory) = Err error.Memory

-- the auction of a text and the outcome after it, or what is wrong first
unfoldable pub auction_and_outcome : List ℕ → Result (AuctionText × Outcome) TextError
auction_and_outcome text =
    reading_of (rows_of text) >>= λ read.
    or_wrong (outcome_after read.0 read.1) >>= λ outcome.
    Ok (read.0, outcome)

-- the name of the good at a place, from 0
abbrev pub good_at : AuctionText → ℕ → List ℕ
good_at a good = slice_index_or a.goods good []

-- the row of a reason: the word for the test that fails, and what is wrong there
abbrev pub reason_row : AuctionText → Reason → List (List ℕ)
reason_row a (reason.Facet w) = codes "no" ∷ codes "facet" ∷ signed_decimal w ∷ []
reason_row a (reason.Earlier k) = codes "no" ∷ codes "earlier" ∷ name_at a.bidders k ∷ []
reason_row a (reason.Invalid k) = codes "no" ∷ codes "invalid" ∷ name_at a.bidders k ∷ []
reason_row a (reason.Floor i) = codes "no" ∷ codes "floor" ∷ good_at a i ∷ []
reason_row a (reason.Sum i sum) = codes "no" ∷ codes "sum" ∷ good_at a i ∷ signed_decimal sum ∷ []
reason_row a (reason.Return i) = codes "no" ∷ codes "return" ∷ good_at a i ∷ []
reason_row a (reason.Demand k set) = codes "no" ∷ codes "demand" ∷ name_at a.bidders k ∷ signed_decimal (pos set) ∷ []
reason_row a (reason.Lower set) = codes "no" ∷ codes "lower" ∷ signed_decimal (pos set) ∷ []
reason_row a (reason.Pay k amount) = codes "no" ∷ codes "pay" ∷ name_at a.bidders k ∷ signed_decimal amount ∷ []
reason_row a (reason.Pair k i) = codes "no" ∷ codes "pair" ∷ name_at a.bidders k ∷ good_at a i ∷ []
reason_row a (reason.Tight k i bound) = codes "no" ∷ codes "tight" ∷ name_at a.bidders k ∷ good_at a i ∷ signed_decimal bound ∷ []

-- the bidder and the good that a reason names are the auction's
abbrev pub IsNamed : AuctionText → Reason → Type 0
IsNamed a (reason.Facet w) = Unit {0}
IsNamed a (reason.Earlier k) = k < length a.bidders
IsNamed a (reason.Invalid k) = k < length a.bidders
IsNamed a (reason.Floor i) = i < length a.goods
IsNamed a (reason.Sum i sum) = i < length a.goods
IsNamed a (reason.Return i) = i < length a.goods
IsNamed a (reason.Demand k set) = k < length a.bidders
IsNamed a (reason.Lower set) = Unit {0}
IsNamed a (reason.Pay k amount) = k < length a.bidders
IsNamed a (reason.Pair k i) = (k < length a.bidders) × (i < length a.goods)
IsNamed a (reason.Tight k i bound) = (k < length a.bidders) × (i < length a.goods)

-- the row of a yes
abbrev pub yes_row : List (List ℕ)
yes_row = codes "yes" ∷ []

-- the output of `check` for an auction and an outcome: yes where the outcome is true, else the first reason why it isn't
abbrev pub IsChecking : AuctionText → Outcome → Output → Type 0
IsChecking a outcome output =
    (IsTrueOutcome a outcome × (output ≡ one_row 0 yes_row))
    ⊎ ((first : Reason) × ¬ IsTrueOutcome a outcome × IsFirstReason a outcome first × (output ≡ one_row 1 (reason_row a first)))

-- the output of `check` for a text of an auction and an outcome
abbrev pub IsCheckingOf : List ℕ → Output → Type 0
IsCheckingOf text output = (a : AuctionText) × (outcome : Outcome) × (auction_and_outcome text ≡ Ok (a, outcome)) × IsChecking a outcome output

-- a text of an auction and a true outcome of it, or one that isn't true
abbrev pub HasTrueOutcome : List ℕ → Type 0
HasTrueOutcome text = (a : AuctionText) × (outcome : Outcome) × (auction_and_outcome text ≡ Ok (a, outcome)) × IsTrueOutcome a outcome

abbrev pub HasFalseOutcome : List ℕ → Type 0
HasFalseOutcome text = (a : AuctionText) × (outcome : Outcome) × (auction_and_outcome text ≡ Ok (a, outcome)) × ¬ IsTrueOutcome a outcome
