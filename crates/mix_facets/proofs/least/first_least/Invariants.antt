use Rattle.std.proofs.Common.{◌≡◌, ℕ, ◌<◌, ◌≤◌, ◌<ℤ◌, ◌≤ℤ◌, pos, get_or, length}
use Rattle.mix_facets.proofs.least.first_least.Given as goal

abbrev pub invariant-loop-place : goal.invariant-loop-place
invariant-loop-place l = record {
  index : l.index < length l.numbers;
  weight : l.weight ≡ get_or l.numbers l.index (pos 0);
  least : (k : ℕ) → k < l.place → l.weight ≤ℤ get_or l.numbers k (pos 0);
  first : (k : ℕ) → k < l.index → l.weight <ℤ get_or l.numbers k (pos 0);
  passed : l.index ≤ l.place;
}
