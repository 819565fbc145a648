use Rattle.std.proofs.Common.{◌≡◌, pos, replicate}
use Rattle.mix_own.proofs.owned.Owned.nothing.Given as goal

abbrev pub invariant-loop : goal.invariant-loop
invariant-loop l = l.owned ≡ replicate l.counter (replicate l.goods (pos 0))
