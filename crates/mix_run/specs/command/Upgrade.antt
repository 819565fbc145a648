-- What the command `upgrade` gives.
use Rattle.std.specs.Prelude.{◌≡◌, ◌==◌, ◌&&◌, ◌++◌, ℕ, List, [], ◌∷◌, length, Result, Ok, codes}
use Rattle.std.specs.Str.{bytes_eq}
use Rattle.mix_text.specs.Auctions.{AuctionText}
use Rattle.mix_text.specs.Pages.{printed}
use Rattle.mix_text.specs.Reading.{◌>>=◌, begins, field_at, holds, placed}
use Rattle.mix_text.specs.Rows.{RowText, rows_of}
use Rattle.mix_text.specs.declared.faults.Code.TheVariants as code
use Rattle.mix_text.specs.declared.faults.TextError.{TextError}
use Rattle.mix_answer.specs.Outcomes.{outcome_text}
use Rattle.mix_answer.specs.declared.outcome.Outcome.{Outcome}
use Rattle.mix_trial.specs.Printing.{auction_rows}
use Rattle.mix_run.specs.command.Check.{auction_and_outcome}
use Rattle.mix_run.specs.Outputs.{Output}

-- the first row of a text of format 1: `mix`, `1`, and nothing else
abbrev pub first_head_of : RowText → Result (Unit {0}) TextError
first_head_of row = placed row.number (holds (begins row.fields (codes "mix") && ((length row.fields == 2) && bytes_eq (field_at row.fields 1) (codes "1"))) code.Header)

-- the first of the rows, if there is one
abbrev pub first_head_in : List RowText → Result (Unit {0}) TextError
first_head_in [] = Ok tt
first_head_in (row ∷ rest) = first_head_of row

-- the auction of a text, which names format 1, and the outcome after it, or what is wrong first: the first row, whatever rows follow, where it
-- names another format
unfoldable pub upgradable : List ℕ → Result (AuctionText × Outcome) TextError
upgradable text = first_head_in (rows_of text) >>= λ _. auction_and_outcome text

-- the same auction in format 2
abbrev pub upgraded : AuctionText → AuctionText
upgraded a = record a { format = 2 }

-- its text, and after it that of the outcome
abbrev pub upgraded_text : AuctionText → Outcome → List ℕ
upgraded_text a outcome = printed (auction_rows (upgraded a)) ++ outcome_text (upgraded a) outcome

-- the output of `upgrade` for a text of an auction of format 1 and an outcome of its shape
abbrev pub IsUpgradingOf : List ℕ → Output → Type 0
IsUpgradingOf text output =
    (a : AuctionText) × (outcome : Outcome) × (upgradable text ≡ Ok (a, outcome)) × (output ≡ record { status = 0; bytes = upgraded_text a outcome })
