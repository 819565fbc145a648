use Rattle.std.proofs.Common.{◌≡◌, ℕ, ◌<◌}
use Rattle.mix_num.specs.Sums.{dot_of}
use Rattle.mix_check.specs.Reasons.{bundle_of, payment_of}
use Rattle.mix_check.proofs.bundles.paid.Given as goal

abbrev pub invariant-loop-bidder : goal.invariant-loop-bidder
invariant-loop-bidder l = (j : ℕ) → j < l.bidder → payment_of l.answer j ≡ dot_of l.answer.prices.items (bundle_of l.answer j)
