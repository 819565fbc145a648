use Rattle.std.proofs.Common.{◌≡◌, ℕ, ◌+◌, ◌*◌, ◌∷◌}
use Rattle.mix_num.specs.Ranges.{Lies}
use Rattle.mix_num.proofs.Additions.{sum_of_first}
use Rattle.mix_num.proofs.sums.sum_over.Given as goal

abbrev pub invariant-loop-k : goal.invariant-loop-k
invariant-loop-k l = record {
  value : l.sum ≡ sum_of_first (l.k + 1) (l.null ∷ l.bundle.items) l.set;
  range : Lies (5000000000 + 8000000 * l.k) l.sum;
  near : (m : ℕ) → Lies m l.null → Lies (m + 8000000 * l.k) l.sum;
}
