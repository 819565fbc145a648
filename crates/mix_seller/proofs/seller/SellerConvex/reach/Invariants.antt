use Rattle.std.proofs.Common.{◌≡◌, suc, pos, ◌≤ℤ◌}
use Rattle.mix_num.specs.Vectors.{members, with_null}
use Rattle.mix_seller.specs.Reaches.{least_to, good_reach}
use Rattle.mix_seller.proofs.seller.SellerConvex.reach.Given as goal

abbrev pub invariant-loop-k : goal.invariant-loop-k
invariant-loop-k l = record {
  so_far : l.least ≡ least_to l.k (λ j. good_reach (members l.set (suc j)) (with_null l.self.supply.items (suc j)) (with_null l.self.reserve.items (suc j)) (with_null l.prices.items (suc j)));
  low : pos 1 ≤ℤ l.least;
  high : l.least ≤ℤ pos 8000000;
}
