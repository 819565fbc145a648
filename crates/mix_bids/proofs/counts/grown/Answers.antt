use Rattle.std.proofs.Common.{◌+◌, ◌-◌, arith, cond, eqb, get_or}
use Rattle.mix_bids.specs.Levels.{other}
use Rattle.mix_bids.proofs.CellPushes.{product_le}
use Rattle.mix_bids.proofs.counts.grown.Goals as goal

pub overflow_sub-result : goal.overflow_sub-result
overflow_sub-result c =
    let i = c.args.first in
    let j = c.args.second in
    let a = c.level_cells.ensures.value in
    let b = c.level_cells-cells.ensures.value in
    let p = product_le (c.args.goods - 1) (λ k. cond (eqb (other i j k) 0) 0 1 + get_or c.args.before k 0) (λ k. cond (eqb (other i j k) 0) 0 1 + get_or c.with_fresh-leads.result k 0)
    (λ k l. let e = c.with_fresh-leads.ensures k l in omega (arith, e)) in
    omega (arith, a, b, p)
