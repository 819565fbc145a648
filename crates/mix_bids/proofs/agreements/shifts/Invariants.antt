use Rattle.std.proofs.Common.{◌≡◌, ◌<◌, ℕ, get_or, length, pos}
use Rattle.mix_num.specs.Ranges.{Lies}
use Rattle.mix_bids.specs.Shared.{shift, shift_number}
use Rattle.mix_bids.proofs.agreements.shifts.Given as goal

abbrev pub invariant-loop-choice : goal.invariant-loop-choice
invariant-loop-choice l = record {
  size : length l.shifts ≡ 9;
  value : (c : ℕ) → c < l.choice → get_or l.shifts c (pos 0) ≡ shift_number c (shift l.earlier.items l.new.items c);
  range : (c : ℕ) → c < l.choice → Lies 10000008 (get_or l.shifts c (pos 0));
}
