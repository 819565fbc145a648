use Rattle.std.proofs.Common.{◌≡◌, ◌+◌, ℕ, ◌<◌, length, get_or, pos, All}
use Rattle.mix_num.specs.Ranges.{Lies}
use Rattle.mix_facets.specs.Points.{prices_at}
use Rattle.mix_facets.proofs.point.price_of.Given as goal

abbrev pub invariant-loop-good : goal.invariant-loop-good
invariant-loop-good l = record {
  size : length l.prices.items + 1 ≡ l.good;
  value : (k : ℕ) → k + 1 < l.good → get_or l.prices.items k (pos 0) ≡ prices_at l.level l.point.items (k + 1);
  range : All (Lies 2000000) l.prices.items;
}
