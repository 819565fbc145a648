use Rattle.std.proofs.Common.{arith}
use Rattle.std.proofs.lemmas.Int.{ints}
use Rattle.mix_num.specs.Vectors.{with_null}
use Rattle.mix_market.proofs.MemberSums.{total_at, sum_next}
use Rattle.mix_market.proofs.sums.value.Goals as goal

pub loop-buyer-preserved : goal.loop-buyer-preserved
loop-buyer-preserved g c =
    let next = sum_next g.D.Convex.function _ _ _ (with_null c.args.prices.now.items) c.loop-buyer-test.true c.buyer-item.is in
    let total = total_at c.requires.buyers _ _ c.loop-buyer-test.true c.buyer-item.is in
    record {
      value = omega (arith, ints);
      low = omega (arith, ints);
      high = omega (arith, ints);
    }
