use Rattle.std.proofs.Common.{◌≡◌, ◌<◌, ◌-ℤ◌, ℕ, pos, length, get_or}
use Rattle.std.specs.Int.{int_max}
use Rattle.mix_descent.proofs.near.below.Given as goal

abbrev pub invariant-loop-place : goal.invariant-loop-place
invariant-loop-place l = record {
  size : length l.start.items ≡ l.place;
  value : (k : ℕ) → k < l.place → get_or l.start.items k (pos 0) ≡ int_max (get_or l.guess.items k (pos 0) -ℤ l.margin) (get_or l.reserve.items k (pos 0));
}
