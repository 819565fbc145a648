use Rattle.std.proofs.Common.{◌≡◌, pos, ◌≤ℤ◌, take}
use Rattle.mix_num.specs.Vectors.{with_null}
use Rattle.mix_bids.specs.Offers.{gain as gain_of}
use Rattle.mix_bids.proofs.gain.gain.Given as goal

abbrev pub invariant-loop-i : goal.invariant-loop-i
invariant-loop-i l = record {
  so_far : l.greatest ≡ gain_of (take l.i l.offers) (with_null l.prices);
  range : (pos 0 ≤ℤ l.greatest) × (l.greatest ≤ℤ pos 5000000);
}
