use Rattle.std.proofs.Common.{◌≡◌, ℕ, suc, ◌^◌, ◌*◌, ◌<◌, ◌≤ℤ◌, pos, length, take}
use Rattle.mix_num.specs.Shares.{sum_at}
use Rattle.mix_num.specs.Tables.{number_of}
use Rattle.mix_check.proofs.tables.sum_of.Given as goal

abbrev pub invariant-loop-table : goal.invariant-loop-table
invariant-loop-table l = record {
  size : length l.sum ≡ 2 ^ suc l.goods;
  sums : (set : ℕ) → set < 2 ^ suc l.goods → number_of l.sum set ≡ sum_at (take l.table-index l.tables) set;
  range : (set : ℕ) → set < 2 ^ suc l.goods → (pos 0 ≤ℤ number_of l.sum set) × (number_of l.sum set ≤ℤ pos (8000000 * l.table-index));
}
