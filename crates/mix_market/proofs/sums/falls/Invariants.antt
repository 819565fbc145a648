use Rattle.std.proofs.Common.{◌≡◌, ◌*◌, ◌^◌, ◌<◌, ◌≤◌, ℕ, suc, map, pos, drop, length, ◌+ℤ◌, ◌≤ℤ◌}
use Rattle.mix_num.specs.Vectors.{members, with_null}
use Rattle.mix_num.specs.Tables.{number_of}
use Rattle.mix_num.specs.Subsets.{sizes, subset_sum}
use Rattle.mix_law.specs.Members.{fall_of}
use Rattle.mix_market.specs.Lyapunov.{sum_of}
use Rattle.mix_market.proofs.sums.falls.Given as goal

abbrev pub invariant-loop-buyer : goal.invariant-loop-buyer
invariant-loop-buyer g l = record {
  value : (set : ℕ) → set < 2 ^ suc (length l.prices.items) → (number_of l.falls set +ℤ subset_sum l.parts set) +ℤ fall_of (sum_of (map g.D.Convex.function (drop l.buyer-index l.buyers))) (with_null l.prices.items) (members set) ≡ fall_of (sum_of (map g.D.Convex.function l.buyers)) (with_null l.prices.items) (members set);
  others : (set : ℕ) → 2 ^ suc (length l.prices.items) ≤ set → number_of l.falls set ≡ pos 0;
  low : (set : ℕ) → pos 0 ≤ℤ number_of l.falls set;
  high : (set : ℕ) → number_of l.falls set ≤ℤ pos (8000000 * l.buyer-index);
  range : (set : ℕ) → set < 2 ^ suc (length l.prices.items) → (pos 0 ≤ℤ (number_of l.falls set +ℤ subset_sum l.parts set)) × ((number_of l.falls set +ℤ subset_sum l.parts set) ≤ℤ pos (8000000 * l.buyer-index));
  small : sizes l.parts ≤ℤ pos (4000000 * l.buyer-index);
}
