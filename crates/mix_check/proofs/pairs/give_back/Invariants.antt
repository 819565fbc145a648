use Rattle.std.proofs.Common.{◌≡◌, ℕ, ◌<◌, ◌≤◌, get_or, pos, ◌+ℤ◌}
use Rattle.mix_check.proofs.pairs.give_back.Given as goal

abbrev pub invariant-loop-set : goal.invariant-loop-set
invariant-loop-set l = record {
  done : (set : ℕ) → set < l.set → get_or l.spare set (pos 0) ≡ get_or l.fn.spare set (pos 0) +ℤ get_or l.table set (pos 0);
  rest : (set : ℕ) → l.set ≤ set → get_or l.spare set (pos 0) ≡ get_or l.fn.spare set (pos 0);
}
