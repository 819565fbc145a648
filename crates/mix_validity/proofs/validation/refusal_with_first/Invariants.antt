use Rattle.std.proofs.Common.{ℕ, ◌<◌}
use Rattle.mix_validity.specs.Searches.{IsClear}
use Rattle.mix_validity.proofs.validation.refusal_with_first.Given as goal

abbrev pub invariant-loop-second : goal.invariant-loop-second
invariant-loop-second l = (j : ℕ) → l.first < j → j < l.second → IsClear l.list l.first j
