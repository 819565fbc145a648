use Rattle.std.proofs.Common.{◌≡◌, ℕ, ◌<◌, ◌≤◌, ◌∷◌, get_or, pos, ◌-ℤ◌}
use Rattle.mix_num.specs.Ranges.{Lies}
use Rattle.mix_num.specs.Sums.{sum_in}
use Rattle.mix_check.proofs.pairs.take.Given as goal

abbrev pub invariant-loop-bits : goal.invariant-loop-bits
invariant-loop-bits l = record {
  done : (set : ℕ) → set < l.bits → get_or l.spare set (pos 0) ≡ get_or l.fn.spare set (pos 0) -ℤ sum_in (l.null ∷ l.bundle.items) set;
  near : (set : ℕ) → set < l.bits → Lies 140000000 (get_or l.fn.spare set (pos 0) -ℤ get_or l.spare set (pos 0));
  rest : (set : ℕ) → l.bits ≤ set → get_or l.spare set (pos 0) ≡ get_or l.fn.spare set (pos 0);
}
