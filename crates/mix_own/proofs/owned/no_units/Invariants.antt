use Rattle.std.proofs.Common.{◌≡◌, pos, replicate}
use Rattle.mix_own.proofs.owned.no_units.Given as goal

abbrev pub invariant-loop : goal.invariant-loop
invariant-loop l = l.none.items ≡ replicate l.counter (pos 0)
