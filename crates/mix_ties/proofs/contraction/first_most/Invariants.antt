use Rattle.std.proofs.Common.{◌≡◌, ℕ, ◌<◌, get_or, pos, ◌-ℤ◌, ◌≤ℤ◌, true, false}
use Rattle.mix_ties.specs.Numbered.{with_first}
use Rattle.mix_ties.proofs.contraction.first_most.Given as goal

abbrev pub invariant-loop-set : goal.invariant-loop-set
invariant-loop-set l = record {
  below : (k : ℕ) → k < l.set → l.most ≤ℤ (get_or l.upper (with_first true k) (pos 0) -ℤ get_or l.lower (with_first false k) (pos 0));
  at : (k : ℕ) × (k < l.half) × (l.most ≡ get_or l.upper (with_first true k) (pos 0) -ℤ get_or l.lower (with_first false k) (pos 0));
}
