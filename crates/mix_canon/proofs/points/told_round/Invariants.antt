use Rattle.std.proofs.Common.{ℕ, ◌*◌, ◌<◌}
use Rattle.mix_num.specs.Vectors.{with_null}
use Rattle.mix_canon.specs.Searches.{AgreeBeside, prices_of}
use Rattle.mix_canon.proofs.points.told_round.Given as goal

abbrev pub invariant-loop-number : goal.invariant-loop-number
invariant-loop-number l = (k : ℕ) → k < l.number → AgreeBeside l.first.bids l.second.bids (with_null (prices_of l.values.items)) (2 * k)
