use Rattle.std.proofs.Common.{◌≢◌, ℕ, ◌+◌, ◌*◌, ◌<◌}
use Rattle.mix_num.specs.Tables.{number_of}
use Rattle.mix_ties.proofs.pairs.first_at.Given as goal

abbrev pub invariant-loop-m : goal.invariant-loop-m
invariant-loop-m l = (k : ℕ) → k < l.m → number_of l.numbers (l.from + 2 * k) ≢ l.number
