use Rattle.std.proofs.Common.{◌≡◌, pos, replicate}
use Rattle.mix_ties.proofs.tests.nothing.Given as goal

abbrev pub invariant-loop : goal.invariant-loop
invariant-loop l = l.bundle.items ≡ replicate l.counter (pos 0)
