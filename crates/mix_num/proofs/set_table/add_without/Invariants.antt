use Rattle.std.proofs.Common.{◌≡◌, ℕ, ◌<◌, ◌≤◌, pos, ◌+ℤ◌, cond, get_or, length}
use Rattle.mix_num.specs.Vectors.{members}
use Rattle.mix_num.specs.Subsets.{IsWithout}
use Rattle.mix_num.proofs.set_table.add_without.Given as goal

abbrev pub invariant-loop-bits : goal.invariant-loop-bits
invariant-loop-bits l = record {
  size : length l.numbers ≡ 512;
  done : (set rest : ℕ) → set < l.bits → IsWithout l.choice set rest → get_or l.numbers set (pos 0) ≡ get_or l.fn.numbers set (pos 0) +ℤ cond (members set l.choice) (get_or l.fn.numbers rest (pos 0)) (pos 0);
  left : (set : ℕ) → l.bits ≤ set → get_or l.numbers set (pos 0) ≡ get_or l.fn.numbers set (pos 0);
}
