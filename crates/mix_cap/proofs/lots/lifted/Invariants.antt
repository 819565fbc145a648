use Rattle.std.proofs.Common.{◌≡◌, ◌*◌, drop, pos, ◌≤ℤ◌, ◌+ℤ◌}
use Rattle.mix_cap.specs.Lots.{lifted, sum_over}
use Rattle.mix_cap.proofs.lots.lifted.Given as goal

abbrev pub invariant-loop-lot : goal.invariant-loop-lot
invariant-loop-lot l = record {
  so_far : l.sum +ℤ sum_over (lifted (pos l.threshold)) (drop l.lot-index l.lots) ≡ sum_over (lifted (pos l.threshold)) l.lots;
  range : (pos 0 ≤ℤ l.sum) × (l.sum ≤ℤ pos (50000000000 * l.lot-index));
}
