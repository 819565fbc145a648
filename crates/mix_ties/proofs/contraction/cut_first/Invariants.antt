use Rattle.std.proofs.Common.{◌≡◌, ℕ, ◌<◌, ◌≤◌, get_or, pos, ◌-ℤ◌, true, false}
use Rattle.std.specs.Int.{int_min}
use Rattle.mix_ties.specs.Numbered.{with_first}
use Rattle.mix_ties.proofs.contraction.cut_first.Given as goal

abbrev pub invariant-loop-set : goal.invariant-loop-set
invariant-loop-set l = record {
  done : (k : ℕ) → k < l.set → get_or l.numbers k (pos 0) ≡ int_min (get_or l.fn.numbers (with_first false k) (pos 0)) (get_or l.fn.numbers (with_first true k) (pos 0) -ℤ l.amount);
  rest : (k : ℕ) → l.set ≤ k → get_or l.numbers k (pos 0) ≡ get_or l.fn.numbers k (pos 0);
}
