use Rattle.std.proofs.Common.{◌≡◌, ℕ, ◌<◌, ◌∷◌, get_or, pos, ◌+ℤ◌, ◌-ℤ◌}
use Rattle.mix_num.specs.Ranges.{Lies}
use Rattle.mix_num.specs.Sums.{sum_in}
use Rattle.mix_num.specs.Tables.{number_of}
use Rattle.mix_check.proofs.pairs.start.Given as goal

abbrev pub invariant-loop-bits : goal.invariant-loop-bits
invariant-loop-bits l = record {
  done : (set : ℕ) → set < l.bits → get_or l.spare set (pos 0) ≡ sum_in (l.null ∷ l.supply.items) set -ℤ (number_of l.tables.sum set +ℤ number_of l.tables.seller set);
  range : (set : ℕ) → set < l.bits → Lies 9000000000 (get_or l.spare set (pos 0));
}
