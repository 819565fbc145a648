use Rattle.std.proofs.Common.{◌≡◌, ◌*◌, suc}
use Rattle.mix_num.specs.Vectors.{dot_to, with_null}
use Rattle.mix_num.specs.Ranges.{Lies}
use Rattle.mix_market.proofs.supply.cost.Given as goal

abbrev pub invariant-loop-place : goal.invariant-loop-place
invariant-loop-place l = record {
  value : l.sum ≡ dot_to (suc l.place) (with_null l.supply) (with_null l.prices);
  range : Lies (4000000000000 * l.place) l.sum;
}
