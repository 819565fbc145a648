use Rattle.std.proofs.Common.{arith}
use Rattle.std.proofs.lemmas.Int.{ints}
use Rattle.mix_pay.proofs.ReceiptSums.{receipts_next}
use Rattle.mix_pay.proofs.payment.receipts.Goals as goal

pub loop-bundle-preserved : goal.loop-bundle-preserved
loop-bundle-preserved c =
    let next = receipts_next (λ bundle. bundle.items) c.args.prices.now.items _ _ _ c.loop-bundle-test.true c.bundle-item.is in
    let range = c.pay-sum.ensures.range in
    record {
      value = omega (arith, ints);
      low = omega (arith, ints);
      high = omega (arith, ints);
    }
