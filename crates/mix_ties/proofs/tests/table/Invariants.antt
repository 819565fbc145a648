use Rattle.std.proofs.Common.{◌≡◌, ℕ, ◌<◌, length, get_or, pos}
use Rattle.mix_num.specs.Ranges.{Lies}
use Rattle.mix_ties.proofs.tests.table.Given as goal

abbrev pub invariant-loop-set : goal.invariant-loop-set
invariant-loop-set l = record {
  size : length l.table ≡ 8;
  done : (k : ℕ) → k < l.set → get_or l.table k (pos 0) ≡ get_or l.fn.numbers k (pos 0);
  range : (k : ℕ) → k < l.set → Lies 128 (get_or l.table k (pos 0));
}
