use Rattle.std.proofs.Common.{◌≡◌, ◌+◌, ◌^◌, ◌<◌, ℕ, pos, ◌≤ℤ◌, length, take}
use Rattle.mix_num.specs.Vectors.{with_null, members}
use Rattle.mix_bids.specs.Offers.{best, gain}
use Rattle.mix_bids.proofs.best.best_choices.Given as goal

abbrev pub invariant-loop-i : goal.invariant-loop-i
invariant-loop-i l = record {
  gain : l.best.gain ≡ gain (take l.i l.offers) (with_null l.prices);
  set : (k : ℕ) → members l.best.set k ≡ best (take l.i l.offers) (with_null l.prices) k;
  range : (pos 0 ≤ℤ l.best.gain) × (l.best.gain ≤ℤ pos 5000000);
  size : l.best.set < 2 ^ (length l.offers + 1);
}
