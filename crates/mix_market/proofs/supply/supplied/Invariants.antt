use Rattle.std.proofs.Common.{◌≡◌, ◌*◌, suc, pos, ◌≤ℤ◌}
use Rattle.mix_num.specs.Vectors.{bit, dot_to, members, with_null}
use Rattle.mix_market.proofs.supply.supplied.Given as goal

abbrev pub invariant-loop-place : goal.invariant-loop-place
invariant-loop-place l = record {
  value : l.sum ≡ dot_to (suc l.place) (with_null l.supply) (λ good. bit (members l.set good));
  low : pos 0 ≤ℤ l.sum;
  high : l.sum ≤ℤ pos (1000000 * l.place);
}
