use Rattle.std.proofs.Common.{◌≡◌, ℕ, ◌<◌, ◌<ℤ◌, pos, get_or}
use Rattle.mix_check.proofs.amounts.returned_at_reserves.Given as goal

abbrev pub invariant-loop-good : goal.invariant-loop-good
invariant-loop-good l = (j : ℕ) → j < l.good → pos 0 <ℤ get_or l.answer.returns.items j (pos 0) → get_or l.answer.prices.items j (pos 0) ≡ get_or l.auction.reserve.items j (pos 0)
