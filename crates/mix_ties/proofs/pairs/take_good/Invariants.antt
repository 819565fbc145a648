use Rattle.std.proofs.Common.{◌≡◌, ℕ, suc, ◌<◌, ◌≤◌, cond, pos, ◌-ℤ◌}
use Rattle.mix_num.specs.Vectors.{members}
use Rattle.mix_num.specs.Tables.{number_of}
use Rattle.mix_ties.proofs.pairs.take_good.Given as goal

abbrev pub invariant-loop-set : goal.invariant-loop-set
invariant-loop-set l = record {
  upper : (k : ℕ) → k < l.set → number_of l.upper k ≡ number_of l.fn.upper k -ℤ cond (members k (suc l.good)) l.amount (pos 0);
  lower : (k : ℕ) → k < l.set → number_of l.lower k ≡ number_of l.fn.lower k -ℤ cond (members k (suc l.good)) l.amount (pos 0);
  upper_rest : (k : ℕ) → l.set ≤ k → number_of l.upper k ≡ number_of l.fn.upper k;
  lower_rest : (k : ℕ) → l.set ≤ k → number_of l.lower k ≡ number_of l.fn.lower k;
}
