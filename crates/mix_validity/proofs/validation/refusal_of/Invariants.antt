use Rattle.std.proofs.Common.{ℕ, ◌<◌}
use Rattle.mix_validity.specs.Searches.{IsClearFrom}
use Rattle.mix_validity.proofs.validation.refusal_of.Given as goal

abbrev pub invariant-loop-first : goal.invariant-loop-first
invariant-loop-first l = (i : ℕ) → i < l.first → IsClearFrom l.list i
