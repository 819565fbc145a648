use Rattle.std.proofs.Common.{◌≡◌, ◌*◌, map, pos, drop, ◌+ℤ◌, ◌≤ℤ◌}
use Rattle.mix_num.specs.Vectors.{members, with_null}
use Rattle.mix_law.specs.Members.{fall_of}
use Rattle.mix_market.specs.Lyapunov.{sum_of}
use Rattle.mix_market.proofs.sums.fall.Given as goal

abbrev pub invariant-loop-buyer : goal.invariant-loop-buyer
invariant-loop-buyer g l = record {
  value : l.sum +ℤ fall_of (sum_of (map g.D.Convex.function (drop l.buyer-index l.buyers))) (with_null l.prices.items) (members l.set) ≡ fall_of (sum_of (map g.D.Convex.function l.buyers)) (with_null l.prices.items) (members l.set);
  low : pos 0 ≤ℤ l.sum;
  high : l.sum ≤ℤ pos (8000000 * l.buyer-index);
}
