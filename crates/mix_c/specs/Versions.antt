-- The versions that are told.
use Rattle.std.specs.Prelude.{◌≡◌, ◌≤◌, ℕ}
use Rattle.mix_text.specs.Formats.{IsFormat}

-- the greatest number that a format of an auction gives, by a rule that gives each format a number
pub record IsGreatest (number_of : ℕ → ℕ) (number : ℕ) : Type 0 where
  pub given : (format : ℕ) × IsFormat format × (number ≡ number_of format)
  pub greatest : (format : ℕ) → IsFormat format → number_of format ≤ number
