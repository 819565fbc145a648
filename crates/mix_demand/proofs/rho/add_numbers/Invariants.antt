use Rattle.std.proofs.Common.{◌≡◌, ℕ, ◌<◌, ◌≤◌, get_or, pos, ◌+ℤ◌}
use Rattle.mix_demand.proofs.rho.add_numbers.Given as goal

abbrev pub invariant-loop-k : goal.invariant-loop-k
invariant-loop-k l = record {
  done : (set : ℕ) → set < l.k → get_or l.sum set (pos 0) ≡ get_or l.fn.sum set (pos 0) +ℤ get_or l.other set (pos 0);
  rest : (set : ℕ) → l.k ≤ set → get_or l.sum set (pos 0) ≡ get_or l.fn.sum set (pos 0);
}
