use Rattle.std.proofs.Common.{arith, ap₂, ◌∙◌, ◌≡◌, ◌*ℤ◌, to_z, of_z, w64, refl}
use Rattle.std.proofs.lemmas.Int.{ints}
use Rattle.mix_bids.proofs.Loops.{bid_at, utility_step}
use Rattle.mix_bids.proofs.list.BidList.utility.Goals as goal

pub loop-bid-preserved : goal.loop-bid-preserved
loop-bid-preserved c =
    let b = bid_at _ _ _ _ _ refl c.loop-bid-test.true c.bid-item.is c.bids-bid-items.ensures.proper in
    let q = b.weight in
    let w : to_z w64 (of_z w64 c.bid-item.result.weight) ≡ c.bid-item.result.weight = omega (arith, ints) in
    let g : to_z w64 (of_z w64 c.gain.result) ≡ c.gain.result = omega (arith, ints) in
    let e = ap₂ (λ u v. u *ℤ v) w (g ∙ c.gain.ensures.value) in
    record {
      so_far = utility_step _ _ _ _ _ _ _ c.loop-bid-test.true c.bid-item.is (omega (arith, ints, e)) c.loop-bid.invariant.so_far;
      low = omega (arith, ints);
      high = omega (arith, ints);
    }
