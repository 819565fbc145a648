use Rattle.std.proofs.Common.{◌≡◌, ℕ, ◌<◌, ◌≤◌, ◌+ℤ◌}
use Rattle.mix_num.specs.Tables.{number_of}
use Rattle.mix_market.proofs.sums.add_parts.Given as goal

abbrev pub invariant-loop-bits : goal.invariant-loop-bits
invariant-loop-bits l = record {
  done : (set : ℕ) → set < l.bits → number_of l.falls set ≡ number_of l.initial.falls set +ℤ number_of l.parts set;
  left : (set : ℕ) → l.bits ≤ set → number_of l.falls set ≡ number_of l.initial.falls set;
}
