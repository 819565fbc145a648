-- The greatest format of auctions, and the greatest version of outcomes.
use Rattle.std.proofs.Common.{◌≤◌, Bool, true, false, if◌then◌else◌, arith, refl}
use Rattle.mix_text.specs.Formats.{has_order}
use Rattle.mix_answer.specs.Outcomes.{version_of}
use Rattle.mix_c.specs.Versions.{IsGreatest}

pub auctions_greatest : IsGreatest (λ format. format) 3
auctions_greatest = record { given = (3, (omega arith, omega arith), refl); greatest = λ format is. is.1 }

at_most_two : (b : Bool) → (if b then 2 else 1) ≤ 2
at_most_two true = omega arith
at_most_two false = omega arith

pub outcomes_greatest : IsGreatest version_of 2
outcomes_greatest = record { given = (3, (omega arith, omega arith), refl); greatest = λ format is. at_most_two (has_order format) }
