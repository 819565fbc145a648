use Rattle.std.proofs.Common.{◌≢◌, ℕ, ◌/◌, ◌<◌, ◌-ℤ◌}
use Rattle.mix_num.specs.Tables.{number_of}
use Rattle.mix_ties.proofs.PairNumbers.{lower_at, upper_at}
use Rattle.mix_ties.proofs.pairs.first_tight.Given as goal

abbrev pub invariant-loop-others : goal.invariant-loop-others
invariant-loop-others l = (k m : ℕ) → k < l.others → m < l.own / 2 → number_of l.upper (upper_at l.own k) -ℤ number_of l.lower (lower_at l.own k m) ≢ l.amount
