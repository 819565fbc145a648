use Rattle.std.proofs.Common.{ℕ, ◌<◌, ◌<ℤ◌, pos, get_or}
use Rattle.mix_facets.proofs.numbers.Numbers.first_from.Given as goal

abbrev pub invariant-loop-place : goal.invariant-loop-place
invariant-loop-place l = (k : ℕ) → k < l.place → get_or l.number-items k (pos 0) <ℤ l.bound
