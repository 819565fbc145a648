use Rattle.std.proofs.Common.{◌≡◌, length}
use Rattle.mix_validity.proofs.tests.twelve.Given as goal

abbrev pub invariant-loop : goal.invariant-loop
invariant-loop l = (l.list.goods ≡ 1) × (length l.list.bids ≡ l.counter)
