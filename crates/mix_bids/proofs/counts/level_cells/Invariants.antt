use Rattle.std.proofs.Common.{◌≡◌, ◌+◌, ◌^◌, ◌≤◌, cond, eqb, get_or}
use Rattle.mix_bids.specs.Levels.{other}
use Rattle.mix_bids.specs.Cells.{product_below}
use Rattle.mix_bids.proofs.counts.level_cells.Given as goal

abbrev pub invariant-loop-place : goal.invariant-loop-place
invariant-loop-place l = record {
  product : l.product ≡ product_below l.place (λ k. cond (eqb (other l.first l.second k) 0) 0 1 + get_or l.leads k 0);
  size : l.product ≤ 401 ^ l.place;
}
