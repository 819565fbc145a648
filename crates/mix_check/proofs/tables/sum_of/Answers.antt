use Rattle.std.proofs.Common.{◌<◌, List, length, ℤ, ◌∙◌, arith}
use Rattle.std.proofs.lemmas.Int.{ints}
use Rattle.mix_check.proofs.TableSums.{number-range, proper-read, sum_at-more}
use Rattle.mix_check.proofs.tables.sum_of.Goals as goal

pub sum_into-requires-clause-range : goal.sum_into-requires-clause-range
sum_into-requires-clause-range c = λ set h.
    let table : List ℤ = c.table-item.result in
    let lt : c.loop-table.table-index < length c.args.tables.now = c.loop-table-test.true in
    let proper = proper-read c.args.goods c.args.tables.now c.requires.proper c.loop-table.table-index table lt c.table-item.is in
    let size = c.loop-table.invariant.size in
    let own = number-range c.args.goods table proper set (omega (arith, h, size)) in
    let so_far = c.loop-table.invariant.range set (omega (arith, h, size)) in
    let few = c.requires.few in
    (omega (arith, ints, own, so_far, lt, few), omega (arith, ints, own, so_far, lt, few))

pub loop-table-preserved : goal.loop-table-preserved
loop-table-preserved c =
    let table : List ℤ = c.table-item.result in
    let lt : c.loop-table.table-index < length c.args.tables.now = c.loop-table-test.true in
    let proper = proper-read c.args.goods c.args.tables.now c.requires.proper c.loop-table.table-index table lt c.table-item.is in
    let size = c.loop-table.invariant.size in
    record {
      size = c.sum_into.ensures.goods ∙ size;
      sums = λ set h.
          let e = c.sum_into.ensures.sums set (omega (arith, h, size)) in
          let more = sum_at-more c.args.tables.now c.loop-table.table-index table set lt c.table-item.is in
          let so_far = c.loop-table.invariant.sums set h in
          omega (arith, ints, e, more, so_far);
      range = λ set h.
          let e = c.sum_into.ensures.sums set (omega (arith, h, size)) in
          let own = number-range c.args.goods table proper set h in
          let so_far = c.loop-table.invariant.range set h in
          (omega (arith, ints, e, own, so_far), omega (arith, ints, e, own, so_far));
    }
