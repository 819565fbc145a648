use Rattle.std.proofs.Common.{◌≡◌, ◌&&◌, ◌*◌, ◌<◌, ℕ, drop, pos, ◌+ℤ◌, ◌≤ℤ◌, int_lt}
use Rattle.std.specs.Ordering.{int_eq}
use Rattle.mix_num.specs.Subsets.{sizes}
use Rattle.mix_num.specs.Tables.{number_of}
use Rattle.mix_num.specs.Vectors.{members, with_null}
use Rattle.mix_bids.specs.Bids.{weight_where}
use Rattle.mix_bids.specs.Offers.{best, gain, same_set}
use Rattle.mix_cap.proofs.tallies.add_by_gain.Given as goal

abbrev pub invariant-loop-bid : goal.invariant-loop-bid
invariant-loop-bid l = record {
  above : (set : ℕ) → set < 512 →
      number_of l.above set +ℤ weight_where (λ b. int_lt (pos l.threshold) (gain b.values.items (with_null l.prices.items)) && same_set 9 (best b.values.items (with_null l.prices.items)) (members set)) (drop l.bid-index l.bid-items)
      ≡ weight_where (λ b. int_lt (pos l.threshold) (gain b.values.items (with_null l.prices.items)) && same_set 9 (best b.values.items (with_null l.prices.items)) (members set)) l.bid-items;
  level : (set : ℕ) → set < 512 →
      number_of l.level set +ℤ weight_where (λ b. int_eq (gain b.values.items (with_null l.prices.items)) (pos l.threshold) && same_set 9 (best b.values.items (with_null l.prices.items)) (members set)) (drop l.bid-index l.bid-items)
      ≡ weight_where (λ b. int_eq (gain b.values.items (with_null l.prices.items)) (pos l.threshold) && same_set 9 (best b.values.items (with_null l.prices.items)) (members set)) l.bid-items;
  small_above : sizes l.above ≤ℤ pos (10000 * l.bid-index);
  small_level : sizes l.level ≤ℤ pos (10000 * l.bid-index);
}
