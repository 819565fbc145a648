use Rattle.std.proofs.Common.{◌≡◌, ℕ, ◌<◌, ◌^◌, ◌∷◌, get_or, pos, ◌-ℤ◌}
use Rattle.mix_num.specs.Ranges.{Lies}
use Rattle.mix_num.specs.Sums.{sum_in}
use Rattle.mix_ties.proofs.rows.fill_floor.Given as goal

abbrev pub invariant-loop-set : goal.invariant-loop-set
invariant-loop-set l = record {
  done : (k : ℕ) → k < l.set → get_or l.floor k (pos 0) ≡ sum_in (l.null ∷ l.left.items) k -ℤ get_or l.later k (pos 0);
  range : (k : ℕ) → k < l.set → Lies (2 ^ 41) (get_or l.floor k (pos 0));
}
