use Rattle.std.proofs.Common.{◌≡◌, ℕ, ◌<◌, pos, get_or}
use Rattle.mix_check.specs.Reasons.{sum_of_good}
use Rattle.mix_check.proofs.amounts.add_up.Given as goal

abbrev pub invariant-loop-good : goal.invariant-loop-good
invariant-loop-good l = (j : ℕ) → j < l.good → sum_of_good l.answer j ≡ get_or l.auction.supply.items j (pos 0)
