use Rattle.std.proofs.Common.{ℕ, suc, ◌+◌, ◌*◌, ◌^◌, ◌<◌, length, slice_index_or}
use Rattle.mix_num.specs.declared.pair.Tight.{Tight}
use Rattle.mix_num.specs.Pairs.{IsFirstTight}
use Rattle.mix_num.specs.Tables.{number_of}
use Rattle.mix_ties.proofs.TightLevels.{AreTaken}
use Rattle.mix_ties.specs.Numbered.{LieWithin}
use Rattle.mix_ties.proofs.pairs.find_tights.Given as goal

abbrev pub invariant-loop-good : goal.invariant-loop-good
invariant-loop-good l = record {
  upper : AreTaken (length l.bundle.items) l.good l.bundle.items l.row l.upper;
  lower : AreTaken (length l.bundle.items) l.good l.bundle.items l.fn.floor l.floor;
  upper_range : LieWithin (2 ^ suc (length l.bundle.items)) (2 ^ 41 + 8000000 * l.good) l.upper;
  lower_range : LieWithin (2 ^ suc (length l.bundle.items)) (2 ^ 41 + 8000000 * l.good) l.floor;
  tights : (j : ℕ) (d : Tight) → j < l.good
      → IsFirstTight (length l.bundle.items) j l.row (number_of l.fn.floor) l.bundle.items (slice_index_or l.tights j d).upper (slice_index_or l.tights j d).lower;
}
