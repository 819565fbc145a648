use Rattle.std.proofs.Common.{◌≡◌, ℕ, suc, ◌<◌, true, pos, ◌+ℤ◌, ◌≤ℤ◌}
use Rattle.mix_num.specs.Vectors.{members, with_null}
use Rattle.mix_range.proofs.range.steps_below.Given as goal

abbrev pub invariant-loop-place : goal.invariant-loop-place
invariant-loop-place l = record {
  some : (pos 1 ≤ℤ l.most) × (l.most ≤ℤ l.steps);
  below : (k : ℕ) → k < l.place → members l.set (suc k) ≡ true → (with_null l.prices.items (suc k) +ℤ l.most) ≤ℤ with_null l.ceiling.items (suc k);
}
