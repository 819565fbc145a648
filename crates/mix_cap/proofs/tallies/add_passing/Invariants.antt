use Rattle.std.proofs.Common.{◌≡◌, ℕ, ◌<◌, ◌≤◌, pos, ◌+ℤ◌, ◌-ℤ◌}
use Rattle.std.specs.Int.{int_max}
use Rattle.mix_num.specs.Tables.{number_of}
use Rattle.mix_cap.proofs.tallies.add_passing.Given as goal

abbrev pub invariant-loop-bits : goal.invariant-loop-bits
invariant-loop-bits l = record {
  done : (set : ℕ) → set < l.bits → number_of l.out set ≡ number_of l.initial.out set +ℤ int_max (pos 0) (number_of l.level set -ℤ l.spare);
  left : (set : ℕ) → l.bits ≤ set → number_of l.out set ≡ number_of l.initial.out set;
}
