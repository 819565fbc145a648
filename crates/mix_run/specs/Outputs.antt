-- An output, and those that are the same for all commands: refusals and failures.
use Rattle.std.specs.Prelude.{ℕ, List, [], ◌∷◌, codes, decimal}
use Rattle.mix_text.specs.Pages.{line_of}
use Rattle.mix_text.specs.declared.faults.Fault.{Fault}
use Rattle.mix_text.specs.declared.faults.Limit.{Limit}
use Rattle.mix_text.specs.declared.faults.What.TheVariants as what
use Rattle.mix_text.specs.declared.faults.TextError.{TextError}
use Rattle.mix_text.specs.declared.faults.TextError.TheVariants as error
use Rattle.mix_run.specs.Words.{code_word, what_word}

-- an output: a status, and the bytes that are written with it
pub record Output : Type 0 where
  pub status : ℕ
  pub bytes : List ℕ

-- one row, and its status
abbrev pub one_row : ℕ → List (List ℕ) → Output
one_row status fields = record { status = status; bytes = line_of fields }

-- words that call no command
abbrev pub unknown_words : Output
unknown_words = one_row 2 (codes "error" ∷ codes "words" ∷ [])

-- an input of which a read failed
abbrev pub unread : Output
unread = one_row 5 (codes "error" ∷ codes "read" ∷ [])

-- a fault: the number of its row, and what is wrong with it
abbrev pub fault_row : Fault → List (List ℕ)
fault_row fault = codes "fault" ∷ decimal fault.at ∷ code_word fault.code ∷ []

-- a limit: the number of the row that passes it, or 0 for the text as a whole, and what there is too much of
abbrev pub limit_row : Limit → List (List ℕ)
limit_row limit = codes "limit" ∷ decimal limit.at ∷ what_word limit.what ∷ []

-- how many bytes a text may have
abbrev pub most_bytes : ℕ
most_bytes = 16777216

-- a text with more of them
abbrev pub too_long : Output
too_long = one_row 4 (limit_row (record { at = 0; what = what.Bytes }))

-- a text with this wrong first; want of memory is nothing that a text has, and writes nothing
abbrev pub refusal : TextError → Output
refusal (error.Fault fault) = one_row 3 (fault_row fault)
refusal (error.Limit limit) = one_row 4 (limit_row limit)
refusal error.Memory = record { status = 7; bytes = [] }
