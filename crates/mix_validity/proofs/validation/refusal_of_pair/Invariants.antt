use Rattle.std.proofs.Common.{◌≡◌, ℕ, ◌<◌, get_or}
use Rattle.mix_facets.specs.Levels.{Level}
use Rattle.mix_validity.specs.Searches.{IsClearAt}
use Rattle.mix_validity.proofs.validation.refusal_of_pair.Given as goal

abbrev pub invariant-loop-place : goal.invariant-loop-place
invariant-loop-place l = (k : ℕ) (level : Level) → k < l.place → level ≡ get_or l.levels-inside.levels.items k level → IsClearAt l.list l.first l.second level.difference
