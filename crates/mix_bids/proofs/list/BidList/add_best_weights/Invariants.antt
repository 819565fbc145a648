use Rattle.std.proofs.Common.{◌≡◌, ◌*◌, ℕ, ◌<◌, drop, pos, ◌≤ℤ◌, ◌+ℤ◌}
use Rattle.mix_num.specs.Vectors.{with_null}
use Rattle.mix_num.specs.Subsets.{sizes}
use Rattle.mix_num.specs.Tables.{number_of}
use Rattle.mix_bids.specs.Bids.{best_weight}
use Rattle.mix_bids.proofs.list.BidList.add_best_weights.Given as goal

abbrev pub invariant-loop-bid : goal.invariant-loop-bid
invariant-loop-bid l = record {
  so_far : (set : ℕ) → set < 512 → number_of l.out set +ℤ best_weight (drop l.bid-index l.bid-items) (with_null l.prices.items) set ≡ number_of l.initial.out set +ℤ best_weight l.bid-items (with_null l.prices.items) set;
  small : sizes l.out ≤ℤ (sizes l.initial.out +ℤ pos (10000 * l.bid-index));
}
