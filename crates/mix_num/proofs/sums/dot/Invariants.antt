use Rattle.std.proofs.Common.{◌≡◌, ◌*◌}
use Rattle.mix_num.specs.Ranges.{Lies}
use Rattle.mix_num.proofs.Additions.{dot_of_first}
use Rattle.mix_num.proofs.sums.dot.Given as goal

abbrev pub invariant-loop-k : goal.invariant-loop-k
invariant-loop-k l = record {
  value : l.sum ≡ dot_of_first l.k l.prices.items l.bundle.items;
  range : Lies (32000000000000 * l.k) l.sum;
}
