use Rattle.std.proofs.Common.{◌≡◌, replicate}
use Rattle.mix_canon.proofs.points.flat.Given as goal

abbrev pub invariant-loop-good : goal.invariant-loop-good
invariant-loop-good l = l.prices.items ≡ replicate l._good l.price
