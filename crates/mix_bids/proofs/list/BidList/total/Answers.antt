use Rattle.std.proofs.Common.{arith, refl}
use Rattle.std.proofs.lemmas.Int.{ints}
use Rattle.mix_bids.proofs.Loops.{bid_at, total_step}
use Rattle.mix_bids.proofs.list.BidList.total.Goals as goal

pub loop-bid-preserved : goal.loop-bid-preserved
loop-bid-preserved c =
    let b = bid_at _ _ _ _ _ refl c.loop-bid-test.true c.bid-item.is c.bids-bid-items.ensures.proper in
    let q = b.weight in
    record {
      so_far = total_step _ _ _ _ _ _ c.loop-bid-test.true c.bid-item.is (omega (arith, ints)) c.loop-bid.invariant.so_far;
      low = omega (arith, ints);
      high = omega (arith, ints);
    }
