-- The words that the program is called with, and those that it prints for faults and limits.
use Rattle.std.specs.Prelude.{◌==◌, ◌+◌, Bool, ℕ, ℤ, pos, List, [], ◌∷◌, take, drop, if◌then◌else◌, Option, Some, None, Result, Ok, Err, codes}
use Rattle.std.specs.Int.RustNames.{unsigned_abs}
use Rattle.std.specs.List.{position_from}
use Rattle.std.specs.Option.{option_map}
use Rattle.std.specs.Str.{bytes_eq}
use Rattle.mix_text.specs.declared.faults.Code.{Code}
use Rattle.mix_text.specs.declared.faults.Code.TheVariants as code
use Rattle.mix_text.specs.declared.faults.What.{What}
use Rattle.mix_text.specs.declared.faults.What.TheVariants as what
use Rattle.mix_text.specs.Spelling.{between, spelled_number}
use Rattle.mix_run.specs.declared.words.Command.{Command}
use Rattle.mix_run.specs.declared.words.Command.TheVariants.{Check, Compare, Prices, Range, Session, Solve, Trail, Upgrade, Utility, Validate}
use Rattle.mix_run.specs.declared.words.Task.{Task}
use Rattle.mix_run.specs.declared.words.Task.TheVariants.{OnText, Trial}

-- the command that a word calls, if it calls one
abbrev pub command_of : List ℕ → Option Command
command_of word =
    if bytes_eq word (codes "utility") then Some Utility
    else if bytes_eq word (codes "validate") then Some Validate
    else if bytes_eq word (codes "prices") then Some Prices
    else if bytes_eq word (codes "trail") then Some Trail
    else if bytes_eq word (codes "solve") then Some Solve
    else if bytes_eq word (codes "check") then Some Check
    else if bytes_eq word (codes "upgrade") then Some Upgrade
    else if bytes_eq word (codes "compare") then Some Compare
    else if bytes_eq word (codes "range") then Some Range
    else if bytes_eq word (codes "session") then Some Session
    else None

-- a trial auction, where a number was read, which has no sign
abbrev pub trial_read : Result ℤ Code → Option Task
trial_read (Ok number) = Some (Trial (unsigned_abs number))
trial_read (Err c) = None

-- the trial auction that two words ask for: `trial`, and the spelling of a number from 0 to 4,294,967,295
abbrev pub trial_asked : List ℕ → List ℕ → Option Task
trial_asked first second = if bytes_eq first (codes "trial") then trial_read (between (pos 0) (pos 4294967295) (spelled_number second)) else None

-- what the words ask for, if it is known
abbrev pub task_of : List (List ℕ) → Option Task
task_of [] = None
task_of (only ∷ []) = option_map OnText (command_of only)
task_of (first ∷ second ∷ []) = trial_asked first second
task_of (first ∷ second ∷ third ∷ rest) = None

-- whether a byte is a blank
abbrev pub is_blank : ℕ → Bool
is_blank byte = byte == 32

-- a text, or what stands before a place in it and what stands after the place
abbrev pub parted_at : List ℕ → Option ℕ → List (List ℕ)
parted_at text None = text ∷ []
parted_at text (Some at) = take at text ∷ drop (at + 1) text ∷ []

-- the words that stand in one text: what comes before its first blank and what comes after it, or else the whole
abbrev pub words_in : List ℕ → List (List ℕ)
words_in text = parted_at text (position_from is_blank 0 text)

-- the word for what is wrong with a row
abbrev pub code_word : Code → List ℕ
code_word code.Header = codes "header"
code_word code.Place = codes "place"
code_word code.Fields = codes "fields"
code_word code.Name = codes "name"
code_word code.Repeated = codes "repeated"
code_word code.Number = codes "number"
code_word code.Range = codes "range"
code_word code.Weight = codes "weight"
code_word code.Nothing = codes "nothing"
code_word code.End = codes "end"
code_word code.After = codes "after"
code_word code.Other = codes "other"

-- the word for what there is too much of
abbrev pub what_word : What → List ℕ
what_word what.Bytes = codes "bytes"
what_word what.Goods = codes "goods"
what_word what.Bidders = codes "bidders"
what_word what.Bids = codes "bids"
what_word what.Negatives = codes "negatives"
what_word what.Cells = codes "cells"
what_word what.Clears = codes "clears"
