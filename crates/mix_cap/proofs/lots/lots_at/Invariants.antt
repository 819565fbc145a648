use Rattle.std.proofs.Common.{◌≡◌, take, All}
use Rattle.mix_num.specs.Vectors.{with_null}
use Rattle.mix_cap.specs.Lots.{IsLot, lots_of}
use Rattle.mix_cap.proofs.lots.lots_at.Given as goal

abbrev pub invariant-loop-bid : goal.invariant-loop-bid
invariant-loop-bid l = record {
  lots : l.lots.items ≡ lots_of (with_null l.prices.items) (take l.bid-index l.bid-items);
  proper : All IsLot l.lots.items;
}
