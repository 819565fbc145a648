use Rattle.std.proofs.Common.{◌≡◌, ℕ, suc, ◌<◌, ◌<ℤ◌, true, pos, slice_index_or}
use Rattle.mix_num.specs.Vectors.{members}
use Rattle.mix_market.proofs.floor.are_above.Given as goal

abbrev pub invariant-loop-place : goal.invariant-loop-place
invariant-loop-place l = (k : ℕ) → k < l.place → members l.set (suc k) ≡ true → slice_index_or l.floor.items k (pos 0) <ℤ slice_index_or l.prices.items k (pos 0)
