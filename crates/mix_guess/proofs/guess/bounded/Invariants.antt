use Rattle.std.proofs.Common.{◌≡◌, ◌<◌, ◌≤ℤ◌, ℕ, pos, length, get_or, All}
use Rattle.mix_num.specs.Ranges.{Lies}
use Rattle.mix_guess.proofs.guess.bounded.Given as goal

abbrev pub invariant-loop-place : goal.invariant-loop-place
invariant-loop-place l = record {
  size : length l.prices.items ≡ l.place;
  range : All (Lies 1000000) l.prices.items;
  floor : (k : ℕ) → k < l.place → get_or l.reserve.items k (pos 0) ≤ℤ get_or l.prices.items k (pos 0);
}
