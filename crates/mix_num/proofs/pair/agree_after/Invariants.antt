use Rattle.std.proofs.Common.{◌≡◌, ℕ, ◌<◌}
use Rattle.mix_num.specs.Vectors.{members}
use Rattle.mix_num.proofs.pair.agree_after.Given as goal

abbrev pub invariant-loop-later : goal.invariant-loop-later
invariant-loop-later l = (i : ℕ) → l.choice < i → i < l.later → members l.upper i ≡ members l.lower i
