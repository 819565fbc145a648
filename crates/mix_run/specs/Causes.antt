-- What stands behind each status: what a text has or is where its command is done, where it isn't, and where it is refused.
use Rattle.std.specs.Prelude.{◌≡◌, ◌<◌, ◌≤◌, ◌⊎◌, ◌↔◌, ℕ, List, length, Option, Some, None, Ok, IfSome, IsSomeAnd}
use Rattle.std.specs.Io.KnownBytes.{Appends}
use Rattle.mix_text.specs.Auctions.{AuctionText}
use Rattle.mix_text.specs.declared.faults.Fault.{Fault}
use Rattle.mix_text.specs.declared.faults.Limit.{Limit}
use Rattle.mix_text.specs.declared.faults.TextError.TheVariants as error
use Rattle.mix_answer.specs.declared.outcome.Outcome.{Outcome}
use Rattle.mix_run.specs.Calls.{IsOutput, IsWrong}
use Rattle.mix_run.specs.command.Check.{HasFalseOutcome, HasTrueOutcome}
use Rattle.mix_run.specs.command.Compare.{HasAuction}
use Rattle.mix_run.specs.Outputs.{Output, most_bytes}
use Rattle.mix_run.specs.command.Range.{HasConvexOwners, HasNonconvexOwner}
use Rattle.mix_run.specs.Refusals.{HasConvexBidders, HasNonconvexBidder}
use Rattle.mix_run.specs.command.Session.{HasSession}
use Rattle.mix_run.specs.command.Upgrade.{upgradable}
use Rattle.mix_run.specs.command.Utility.{utility_text}
use Rattle.mix_run.specs.declared.words.Command.{Command}
use Rattle.mix_run.specs.declared.words.Command.TheVariants.{Check, Compare, Prices, Range, Session, Solve, Trail, Upgrade, Utility, Validate}
use Rattle.mix_run.specs.declared.words.Task.{Task}
use Rattle.mix_run.specs.declared.words.Task.TheVariants.{OnText, Trial}

-- a text is as the command wants it, and what the command asks is met: that each bidder is convex, or that the outcome is true
abbrev pub IsMet : Command → List ℕ → Type 0
IsMet Utility text = (bytes : List ℕ) × (utility_text text ≡ Ok bytes)
IsMet Validate text = HasConvexBidders text
IsMet Prices text = HasConvexBidders text
IsMet Trail text = HasConvexBidders text
IsMet Solve text = HasConvexBidders text
IsMet Check text = HasTrueOutcome text
IsMet Upgrade text = (a : AuctionText) × (outcome : Outcome) × (upgradable text ≡ Ok (a, outcome))
IsMet Compare text = HasAuction text
IsMet Range text = HasConvexOwners text
IsMet Session text = HasSession text

-- a text is as the command wants it, but what the command asks isn't met: some bidder isn't convex, or the outcome isn't true
abbrev pub IsUnmet : Command → List ℕ → Type 0
IsUnmet Utility text = ⊥
IsUnmet Validate text = HasNonconvexBidder text
IsUnmet Prices text = HasNonconvexBidder text
IsUnmet Trail text = HasNonconvexBidder text
IsUnmet Solve text = HasNonconvexBidder text
IsUnmet Check text = HasFalseOutcome text
IsUnmet Upgrade text = ⊥
IsUnmet Compare text = ⊥
IsUnmet Range text = HasNonconvexOwner text
IsUnmet Session text = ⊥

-- a text has a fault before it passes a limit
abbrev pub IsFaulty : Command → List ℕ → Type 0
IsFaulty command text = (fault : Fault) × IsWrong command text (error.Fault fault)

-- a text of not too many bytes passes a test
abbrev pub Within : (Command → List ℕ → Type 0) → Command → List ℕ → Type 0
Within test command text = (length text ≤ most_bytes) × test command text

-- a text has too many bytes, or passes a limit before it has a fault
abbrev pub IsTooMuch : Command → List ℕ → Type 0
IsTooMuch command text = (most_bytes < length text) ⊎ ((length text ≤ most_bytes) × (limit : Limit) × IsWrong command text (error.Limit limit))

-- the words ask for a command, and the text, if it is told, passes a test; or they ask for a trial auction, of which something is said
abbrev pub Has : (Command → List ℕ → Type 0) → Type 0 → Option Task → Option (List ℕ) → Type 0
Has test trial None text = ⊥
Has test trial (Some (OnText command)) text = IfSome text (λ bytes. test command bytes)
Has test trial (Some (Trial number)) text = trial

-- the same of a text that is told
abbrev pub Shows : (Command → List ℕ → Type 0) → Type 0 → Option Task → Option (List ℕ) → Type 0
Shows test trial None text = ⊥
Shows test trial (Some (OnText command)) text = IsSomeAnd text (λ bytes. test command bytes)
Shows test trial (Some (Trial number)) text = trial

-- what was written after the bytes taken is checked as the text, where that is told: `check` may give of the one what it may give of the other
abbrev pub AreCheckedAlike : Option (List ℕ) → Option (List ℕ) → Option (List ℕ) → Type 0
AreCheckedAlike text taken now = IfSome text (λ bytes. (written : List ℕ) × Appends taken now written × ((reply : Output) → IsOutput Check bytes reply ↔ IsOutput Check written reply))
