use Rattle.std.proofs.Common.{◌≡◌, ◌<◌, ℕ, pos, ◌-ℤ◌, ◌*ℤ◌, ◌≤ℤ◌, get_or, drop}
use Rattle.std.specs.Int.{int_min}
use Rattle.mix_num.specs.Vectors.{members, ray, with_null}
use Rattle.mix_law.specs.Members.{fall_of}
use Rattle.mix_market.specs.Extremes.{least_of}
use Rattle.mix_market.proofs.sums.reach.Given as goal

abbrev pub invariant-loop-buyer : goal.invariant-loop-buyer
invariant-loop-buyer g l = record {
  so_far : int_min l.least (least_of (λ buyer. g.D.Convex.reach buyer (with_null l.prices.items) (members l.set)) (drop l.buyer-index l.buyers)) ≡ least_of (λ buyer. g.D.Convex.reach buyer (with_null l.prices.items) (members l.set)) l.buyers;
  low : pos 1 ≤ℤ l.least;
  high : l.least ≤ℤ pos 8000000;
  linear : (m : ℕ) → pos m ≤ℤ l.least → (k : ℕ) → k < l.buyer-index → (d : g.row.D.Denot) → g.D.Convex.function (get_or l.buyers k d) (ray (with_null l.prices.items) m (members l.set)) ≡ g.D.Convex.function (get_or l.buyers k d) (with_null l.prices.items) -ℤ (pos m *ℤ fall_of (g.D.Convex.function (get_or l.buyers k d)) (with_null l.prices.items) (members l.set));
}
