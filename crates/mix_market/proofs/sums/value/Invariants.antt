use Rattle.std.proofs.Common.{◌≡◌, ◌*◌, map, pos, drop, ◌+ℤ◌, ◌≤ℤ◌}
use Rattle.mix_num.specs.Vectors.{with_null}
use Rattle.mix_market.specs.Lyapunov.{sum_of}
use Rattle.mix_market.proofs.sums.value.Given as goal

abbrev pub invariant-loop-buyer : goal.invariant-loop-buyer
invariant-loop-buyer g l = record {
  value : l.sum +ℤ sum_of (map g.D.Convex.function (drop l.buyer-index l.buyers)) (with_null l.prices.items) ≡ sum_of (map g.D.Convex.function l.buyers) (with_null l.prices.items);
  low : pos 0 ≤ℤ l.sum;
  high : l.sum ≤ℤ pos (40000000000000 * l.buyer-index);
}
