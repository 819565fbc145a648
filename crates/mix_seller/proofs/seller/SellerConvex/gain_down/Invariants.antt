use Rattle.std.proofs.Common.{◌≡◌, suc, ◌*◌, pos, ◌≤ℤ◌, ◌-ℤ◌, ◌*ℤ◌}
use Rattle.mix_num.specs.Sellers.{unit_gain}
use Rattle.mix_num.specs.Vectors.{sum_to, with_null, members, minus}
use Rattle.mix_seller.proofs.seller.SellerConvex.gain_down.Given as goal

abbrev pub invariant-loop-k : goal.invariant-loop-k
invariant-loop-k l = record {
  so_far : l.sum ≡ sum_to l.k (λ j. with_null l.self.supply.items (suc j) *ℤ unit_gain l.self.reserve.items (minus (with_null l.prices.items) (members l.set)) (suc j)) -ℤ sum_to l.k (λ j. with_null l.self.supply.items (suc j) *ℤ unit_gain l.self.reserve.items (with_null l.prices.items) (suc j));
  low : pos 0 ≤ℤ l.sum;
  high : l.sum ≤ℤ pos (1000000 * l.k);
}
