use Rattle.std.proofs.Common.{◌≡◌, ◌*◌, map, pos, neg_ℤ, drop, ◌+ℤ◌, ◌≤ℤ◌}
use Rattle.mix_pay.specs.Receipts.{receipts_of}
use Rattle.mix_pay.proofs.payment.receipts.Given as goal

abbrev pub invariant-loop-bundle : goal.invariant-loop-bundle
invariant-loop-bundle l = record {
  value : l.sum +ℤ receipts_of l.prices.items (map (λ bundle. bundle.items) (drop l.bundle-index l.bundles)) ≡ receipts_of l.prices.items (map (λ bundle. bundle.items) l.bundles);
  low : neg_ℤ (pos (256000000000000 * l.bundle-index)) ≤ℤ l.sum;
  high : l.sum ≤ℤ pos (256000000000000 * l.bundle-index);
}
