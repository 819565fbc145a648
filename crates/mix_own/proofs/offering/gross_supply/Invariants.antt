use Rattle.std.proofs.Common.{◌≡◌, length}
use Rattle.mix_own.proofs.GrossSupplies.{gross_first}
use Rattle.mix_own.proofs.offering.gross_supply.Given as goal

-- the goods so far
abbrev pub invariant-loop-i : goal.invariant-loop-i
invariant-loop-i l = record {
  value : l.supply.items ≡ gross_first l.i l.auction.supply.items l.owned;
  count : length l.supply.items ≡ l.i;
}
