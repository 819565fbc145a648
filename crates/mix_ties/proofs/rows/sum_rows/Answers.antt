use Rattle.std.proofs.Common.{◌≡◌, ◌<◌, List, length, ℤ, arith, sym, subst}
use Rattle.std.proofs.lemmas.Int.{ints}
use Rattle.mix_ties.specs.Numbered.{LieWithin}
use Rattle.mix_ties.proofs.RowTurns.{row_sum-more}
use Rattle.mix_ties.proofs.rows.sum_rows.Goals as goal

pub add_to-requires-clause-range : goal.add_to-requires-clause-range
add_to-requires-clause-range c = λ set h.
    let r : List ℤ = c.row-item.result in
    let lt : c.loop-row.row-index < length c.args.rows.now = c.loop-row-test.true in
    let lies : LieWithin (length c.args.sum.now) 8000000 r = subst (λ (x : List ℤ). LieWithin (length c.args.sum.now) 8000000 x) (sym c.row-item.is) (c.requires.range c.loop-row.row-index r lt) in
    let size : length c.loop-row.sum ≡ length c.args.sum.now = omega arith in
    let a = c.loop-row.invariant.range set (omega (arith, h, size)) in
    let b = lies set (omega (arith, h, size)) in
    let few = c.requires.few in
    (omega (arith, ints, a, b, lt, few), omega (arith, ints, a, b, lt, few))

pub loop-row-preserved : goal.loop-row-preserved
loop-row-preserved c =
    let r : List ℤ = c.row-item.result in
    let lt : c.loop-row.row-index < length c.args.rows.now = c.loop-row-test.true in
    let lies : LieWithin (length c.args.sum.now) 8000000 r = subst (λ (x : List ℤ). LieWithin (length c.args.sum.now) 8000000 x) (sym c.row-item.is) (c.requires.range c.loop-row.row-index r lt) in
    let size : length c.loop-row.sum ≡ length c.args.sum.now = omega arith in
    record {
      value = λ set h.
          let e = c.add_to.ensures.sums set (omega (arith, h, size)) in
          omega (arith, ints, e, c.loop-row.invariant.value set h, row_sum-more c.args.rows.now c.loop-row.row-index r set lt c.row-item.is);
      range = λ set h.
          let e = c.add_to.ensures.sums set (omega (arith, h, size)) in
          let a = c.loop-row.invariant.range set h in
          let b = lies set h in
          (omega (arith, ints, a, b, e), omega (arith, ints, a, b, e));
    }
