use Rattle.std.proofs.Common.{◌≡◌, ℕ, get_or, pos, cond, false, ltb, int_eq}
use Rattle.mix_num.specs.Vectors.{members}
use Rattle.mix_bids.proofs.agreements.equals.Given as goal

abbrev pub invariant-loop-other : goal.invariant-loop-other
invariant-loop-other l = (k : ℕ) → members l.set k ≡ cond (ltb k l.other) (int_eq (get_or l.shifts k (pos 0)) (get_or l.shifts l.choice (pos 0))) false
