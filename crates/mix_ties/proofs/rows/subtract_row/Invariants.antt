use Rattle.std.proofs.Common.{◌≡◌, ℕ, ◌<◌, ◌≤◌, get_or, pos, ◌-ℤ◌}
use Rattle.mix_ties.proofs.rows.subtract_row.Given as goal

abbrev pub invariant-loop-set : goal.invariant-loop-set
invariant-loop-set l = record {
  done : (k : ℕ) → k < l.set → get_or l.sum k (pos 0) ≡ get_or l.fn.sum k (pos 0) -ℤ get_or l.row k (pos 0);
  rest : (k : ℕ) → l.set ≤ k → get_or l.sum k (pos 0) ≡ get_or l.fn.sum k (pos 0);
}
