use Rattle.std.proofs.Common.{◌≡◌, ◌<◌, ℕ, pos, ◌+ℤ◌, suc, length, cond, get_or}
use Rattle.mix_num.specs.Vectors.{members}
use Rattle.mix_num.proofs.moves.moved.Given as goal

abbrev pub invariant-loop-place : goal.invariant-loop-place
invariant-loop-place l = record {
  goods : length l.moved.items ≡ l.place;
  prices : (k : ℕ) → k < l.place → get_or l.moved.items k (pos 0) ≡ get_or l.prices.items k (pos 0) +ℤ cond (members l.set (suc k)) l.by (pos 0);
}
