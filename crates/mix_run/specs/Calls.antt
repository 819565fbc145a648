-- What a call of the program owes: which output is wanted of the words and the text, and how far it is written.
use Rattle.std.specs.Prelude.{◌≡◌, ◌≢◌, ◌<◌, ◌≤◌, ◌⊎◌, ℕ, List, length, Option, Some, None, Ok, Err, IfNone, IfSome}
use Rattle.std.specs.Io.KnownBytes.{Appends, Consumes}
use Rattle.mix_io.specs.Given.{AppendsPrefix}
use Rattle.mix_text.specs.declared.faults.TextError.{TextError}
use Rattle.mix_run.specs.command.Check.{IsCheckingOf, auction_and_outcome}
use Rattle.mix_run.specs.command.Compare.{IsComparisonOf}
use Rattle.mix_run.specs.Outputs.{Output, most_bytes, refusal, too_long, unknown_words, unread}
use Rattle.mix_run.specs.command.Prices.{IsPricingOf}
use Rattle.mix_run.specs.command.Range.{IsRangingOf, range_text}
use Rattle.mix_run.specs.Readings.{auction_alone}
use Rattle.mix_run.specs.command.Session.{IsSessionOf, session_text}
use Rattle.mix_run.specs.command.Solve.{IsSolvingOf}
use Rattle.mix_run.specs.command.Trail.{IsTrailingOf}
use Rattle.mix_run.specs.command.Trial.{IsTrialing}
use Rattle.mix_run.specs.command.Upgrade.{IsUpgradingOf, upgradable}
use Rattle.mix_run.specs.command.Utility.{utility_text}
use Rattle.mix_run.specs.command.Validate.{IsValidityOf}
use Rattle.mix_run.specs.declared.words.Command.{Command}
use Rattle.mix_run.specs.declared.words.Command.TheVariants.{Check, Compare, Prices, Range, Session, Solve, Trail, Upgrade, Utility, Validate}
use Rattle.mix_run.specs.declared.words.Task.{Task}
use Rattle.mix_run.specs.declared.words.Task.TheVariants.{OnText, Trial}

-- a text isn't as the command wants it, and this is wrong first
abbrev pub IsWrong : Command → List ℕ → TextError → Type 0
IsWrong Utility text e = utility_text text ≡ Err e
IsWrong Validate text e = auction_alone text ≡ Err e
IsWrong Prices text e = auction_alone text ≡ Err e
IsWrong Trail text e = auction_alone text ≡ Err e
IsWrong Solve text e = auction_alone text ≡ Err e
IsWrong Check text e = auction_and_outcome text ≡ Err e
IsWrong Upgrade text e = upgradable text ≡ Err e
IsWrong Compare text e = auction_alone text ≡ Err e
IsWrong Range text e = range_text text ≡ Err e
IsWrong Session text e = session_text text ≡ Err e

-- a text is as the command wants it, and this comes of it
abbrev pub IsDone : Command → List ℕ → Output → Type 0
IsDone Utility text output = (bytes : List ℕ) × (utility_text text ≡ Ok bytes) × (output ≡ record { status = 0; bytes = bytes })
IsDone Validate text output = IsValidityOf text output
IsDone Prices text output = IsPricingOf text output
IsDone Trail text output = IsTrailingOf text output
IsDone Solve text output = IsSolvingOf text output
IsDone Check text output = IsCheckingOf text output
IsDone Upgrade text output = IsUpgradingOf text output
IsDone Compare text output = IsComparisonOf text output
IsDone Range text output = IsRangingOf text output
IsDone Session text output = IsSessionOf text output

-- a text is refused, and this comes of it: what is wrong first, whatever the command
abbrev pub IsRefused : Command → List ℕ → Output → Type 0
IsRefused command text output = (e : TextError) × IsWrong command text e × (output ≡ refusal e)

-- the output of a command for a text: a text of too many bytes, whatever its rows; else one that is refused, or done
abbrev pub IsOutput : Command → List ℕ → Output → Type 0
IsOutput command text output =
    ((most_bytes < length text) × (output ≡ too_long))
    ⊎ ((length text ≤ most_bytes) × (IsRefused command text output ⊎ IsDone command text output))

-- the bytes are those that the source tells, if it tells any
abbrev pub AreTold : Option (List ℕ) → List ℕ → Type 0
AreTold text bytes = IfSome text (λ told. bytes ≡ told)

-- the output of a task: of a command on a text what some bytes give, the told ones where the source tells them, or that the input couldn't be
-- read; of a trial auction its summary
abbrev pub IsWantedOf : Task → Option (List ℕ) → Type 0 → Output → Type 0
IsWantedOf (OnText command) text read_failed output = (read_failed × (output ≡ unread)) ⊎ ((bytes : List ℕ) × AreTold text bytes × IsOutput command bytes output)
IsWantedOf (Trial number) text read_failed output = IsTrialing number output

-- the output that is wanted of words that ask for a task, or for nothing that is known
pub record IsWanted (task : Option Task) (text : Option (List ℕ)) (read_failed : Type 0) (output : Output) : Type 0 where
  pub unknown : IfNone task (output ≡ unknown_words)
  pub known : IfSome task (λ t. IsWantedOf t text read_failed output)

-- the whole output was appended to the bytes taken, and its status answered; or a prefix of it, and 6, where the sink failed
pub record IsWritten (output : Output) (write_failed : Type 0) (taken now : Option (List ℕ)) (status : ℕ) : Type 0 where
  pub whole : status ≢ 6 → (status ≡ output.status) × Appends taken now output.bytes
  pub cut : status ≡ 6 → write_failed × AppendsPrefix taken now output.bytes

-- the output of the command for the text was written
abbrev pub WritesFor : Command → List ℕ → Type 0 → Option (List ℕ) → Option (List ℕ) → ℕ → Type 0
WritesFor command text write_failed taken now status = (output : Output) × IsOutput command text output × IsWritten output write_failed taken now status

-- the summary of the trial auction of a number was written
abbrev pub WritesTrial : ℕ → Type 0 → Option (List ℕ) → Option (List ℕ) → ℕ → Type 0
WritesTrial number write_failed taken now status = (output : Output) × IsTrialing number output × IsWritten output write_failed taken now status

-- the words ask for a command on the text of the input
abbrev pub Reads : Option Task → Type 0
Reads None = ⊥
Reads (Some (OnText command)) = Unit {0}
Reads (Some (Trial number)) = ⊥

-- an output that is wanted was written
pub record IsAnswered (task : Option Task) (text : Option (List ℕ)) (read_failed write_failed : Type 0) (taken now : Option (List ℕ)) (status : ℕ) : Type 0 where
  pub output : Output
  pub wanted : IsWanted task text read_failed output
  pub written : IsWritten output write_failed taken now status

-- at most n bytes were taken from the front of those that are left, where they are told
abbrev pub TakesAtMost : ℕ → Option (List ℕ) → Option (List ℕ) → Type 0
TakesAtMost n old new = (bytes : List ℕ) × (length bytes ≤ n) × Consumes old new bytes
