use Rattle.std.proofs.Common.{◌≡◌, ◌*◌}
use Rattle.mix_num.specs.Ranges.{Lies}
use Rattle.mix_num.specs.Pairs.{sum_before}
use Rattle.mix_num.proofs.pair.amount_before.Given as goal

abbrev pub invariant-loop-place : goal.invariant-loop-place
invariant-loop-place l = record { value : l.sum ≡ sum_before l.place l.bundle.items l.set; range : Lies (8000000 * l.place) l.sum }
