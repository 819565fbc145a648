use Rattle.std.proofs.Common.{◌≡◌, ℕ, cond, false, ltb}
use Rattle.std.specs.Option.{is_some}
use Rattle.mix_num.specs.Vectors.{members}
use Rattle.mix_bids.specs.Offers.{offer}
use Rattle.mix_bids.proofs.counts.offers.Given as goal

abbrev pub invariant-loop-choice : goal.invariant-loop-choice
invariant-loop-choice l = (k : ℕ) → members l.set k ≡ cond (ltb k l.choice) (is_some (offer l.bid.values.items k)) false
