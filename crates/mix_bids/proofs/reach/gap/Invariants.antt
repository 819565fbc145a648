use Rattle.std.proofs.Common.{◌≡◌, pos, ◌≤ℤ◌, take}
use Rattle.mix_num.specs.Vectors.{members, outside, with_null}
use Rattle.mix_bids.specs.Reaches.{gain_in}
use Rattle.mix_bids.proofs.reach.gap.Given as goal

abbrev pub invariant-loop-i : goal.invariant-loop-i
invariant-loop-i l = record {
  inside : l.gains.inside ≡ gain_in (members l.set) (take l.i l.offers) (with_null l.prices);
  inside_range : (pos 0 ≤ℤ l.gains.inside) × (l.gains.inside ≤ℤ pos 5000000);
  outside : l.gains.outside ≡ gain_in (outside (members l.set)) (take l.i l.offers) (with_null l.prices);
  outside_range : (pos 0 ≤ℤ l.gains.outside) × (l.gains.outside ≤ℤ pos 5000000);
}
