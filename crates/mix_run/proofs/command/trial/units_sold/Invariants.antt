use Rattle.std.proofs.Common.{◌≡◌, get_or, map, pos, ◌-ℤ◌}
use Rattle.std.specs.List.{range_with_len}
use Rattle.mix_run.proofs.command.trial.units_sold.Given as goal

abbrev pub invariant-loop-good : goal.invariant-loop-good
invariant-loop-good l = l.sold.items ≡ map (λ i. get_or l.supply.items i (pos 0) -ℤ get_or l.returns.items i (pos 0)) (range_with_len 0 l.good)
