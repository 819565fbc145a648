use Rattle.std.proofs.Common.{◌≡◌, length}
use Rattle.mix_own.proofs.NetAmounts.{net_first}
use Rattle.mix_own.proofs.trading.net.Given as goal

-- the goods so far
abbrev pub invariant-loop-i : goal.invariant-loop-i
invariant-loop-i l = record {
  value : l.net.items ≡ net_first l.i l.bundle.items l.owned.items;
  count : length l.net.items ≡ l.i;
}
