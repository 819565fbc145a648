use Rattle.std.proofs.Common.{◌≡◌, ◌<◌, ℕ, get_or, int_eq, length, pos}
use Rattle.mix_num.specs.Vectors.{members}
use Rattle.mix_bids.proofs.agreements.agreement_of.Given as goal

abbrev pub invariant-loop-choice : goal.invariant-loop-choice
invariant-loop-choice l = record {
  size : length l.sets ≡ 9;
  small : (c : ℕ) → c < l.choice → get_or l.sets c 0 < 512;
  same : (c : ℕ) → c < l.choice → (k : ℕ) → k < 9 → members (get_or l.sets c 0) k ≡ int_eq (get_or l.shifts k (pos 0)) (get_or l.shifts c (pos 0));
}
