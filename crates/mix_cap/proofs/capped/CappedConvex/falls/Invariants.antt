use Rattle.std.proofs.Common.{◌≡◌, ℕ, ◌<◌, ◌≤◌, ◌+ℤ◌}
use Rattle.mix_num.specs.Tables.{number_of}
use Rattle.mix_num.specs.Vectors.{members, with_null}
use Rattle.mix_law.specs.Members.{fall_of}
use Rattle.mix_cap.specs.Cappeds.{utility_of}
use Rattle.mix_cap.proofs.capped.CappedConvex.falls.Given as goal

abbrev pub invariant-loop-bits : goal.invariant-loop-bits
invariant-loop-bits l = record {
  done : (set : ℕ) → set < l.bits → number_of l.out set ≡ number_of l.initial.out set +ℤ fall_of (utility_of l.self) (with_null l.prices.items) (members set);
  left : (set : ℕ) → l.bits ≤ set → number_of l.out set ≡ number_of l.initial.out set;
}
