use Rattle.std.proofs.Common.{◌≡◌, drop, pos, ◌+ℤ◌, ◌≤ℤ◌}
use Rattle.mix_num.specs.Shares.{sum_at}
use Rattle.mix_own.proofs.offering.together.Given as goal

abbrev pub invariant-loop-k : goal.invariant-loop-k
invariant-loop-k l = record {
  value : l.sum +ℤ sum_at (drop l.k l.owned) l.i ≡ sum_at l.owned l.i;
  least : pos 0 ≤ℤ l.sum;
}
