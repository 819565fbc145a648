use Rattle.std.proofs.Common.{◌≡◌, ℕ, suc, ◌^◌, ◌<◌, ◌≤◌, pos, get_or, length}
use Rattle.mix_num.proofs.SubsetSums.{partial}
use Rattle.mix_num.proofs.set_table.SetTable.subset_sums.Given as goal

abbrev pub invariant-loop-choice : goal.invariant-loop-choice
invariant-loop-choice l = record {
  size : length l.self-inside.numbers ≡ 512;
  done : (set : ℕ) → set < 2 ^ suc l.n → get_or l.self-inside.numbers set (pos 0) ≡ partial l.initial.self-inside.numbers l.choice set;
  left : (set : ℕ) → 2 ^ suc l.n ≤ set → get_or l.self-inside.numbers set (pos 0) ≡ get_or l.initial.self-inside.numbers set (pos 0);
}
