use Rattle.std.proofs.Common.{◌≡◌, None, replicate}
use Rattle.mix_trial.proofs.bids.no_values.Given as goal

-- as many places as the index, no value at any
abbrev pub invariant-loop-good : goal.invariant-loop-good
invariant-loop-good l = l.values.items ≡ replicate l._good None
