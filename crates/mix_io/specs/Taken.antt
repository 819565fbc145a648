-- How much a whole read takes at each of its answers.
use Rattle.std.specs.Prelude.{◌≡◌, ◌≤◌, ℕ, suc, List, length, Option, Result, Ok, Err}
use Rattle.std.specs.Io.KnownBytes.{Consumes}
use Rattle.mix_io.specs.declared.whole.ReadRefused.{ReadRefused}
use Rattle.mix_io.specs.declared.whole.ReadRefused.TheVariants.{ReadFault, TooLong, Memory}

-- one byte more than the limit at TooLong, and at most the limit at every other answer
abbrev pub IsCountFor : {T : Type 0} → Result T ReadRefused → ℕ → ℕ → Type 0
IsCountFor (Ok bytes) limit n = n ≤ limit
IsCountFor (Err ReadFault) limit n = n ≤ limit
IsCountFor (Err TooLong) limit n = n ≡ suc limit
IsCountFor (Err Memory) limit n = n ≤ limit

-- where the bytes left are told, so many of them were taken from the front
abbrev pub TakesFor : {T : Type 0} → Result T ReadRefused → ℕ → Option (List ℕ) → Option (List ℕ) → Type 0
TakesFor result limit old new = (bytes : List ℕ) × IsCountFor result limit (length bytes) × Consumes old new bytes
