use Rattle.std.proofs.Common.{◌≡◌, ◌≤◌, length}
use Rattle.mix_tests.proofs.sessions.compared.Given as goal

abbrev pub invariant-loop : goal.invariant-loop
invariant-loop g l = record {
  goods : length l.session.auction.goods ≡ 2;
  alike : l.counts.alike ≤ l.counter;
  refused : l.counts.refused ≤ l.counter;
}
