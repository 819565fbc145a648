use Rattle.std.proofs.Common.{ℕ, ◌<◌, ◌≤ℤ◌, suc}
use Rattle.mix_num.specs.Vectors.{with_null}
use Rattle.mix_range.proofs.range.is_below.Given as goal

abbrev pub invariant-loop-place : goal.invariant-loop-place
invariant-loop-place l = (k : ℕ) → k < l.place → with_null l.prices.items (suc k) ≤ℤ with_null l.ceiling.items (suc k)
