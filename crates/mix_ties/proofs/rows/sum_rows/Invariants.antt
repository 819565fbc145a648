use Rattle.std.proofs.Common.{◌≡◌, ℕ, ◌<◌, ◌*◌, take, length}
use Rattle.mix_num.specs.Tables.{number_of}
use Rattle.mix_ties.specs.Numbered.{LieWithin}
use Rattle.mix_num.specs.Shares.{sum_at}
use Rattle.mix_ties.proofs.rows.sum_rows.Given as goal

abbrev pub invariant-loop-row : goal.invariant-loop-row
invariant-loop-row l = record {
  value : (set : ℕ) → set < length l.fn.sum → number_of l.sum set ≡ sum_at (take l.row-index l.rows) set;
  range : LieWithin (length l.fn.sum) (8000000 * l.row-index) l.sum;
}
