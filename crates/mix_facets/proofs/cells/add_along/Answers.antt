use Rattle.std.proofs.Common.{suc, ◌*◌, ⊎_elim, arith, ◌∙◌, length}
use Rattle.std.proofs.lemmas.Bool.{cases_lt}
use Rattle.mix_facets.proofs.Blocks.{first_fits, block_fits, sums_in_block}
use Rattle.mix_facets.proofs.cells.add_along.Goals as goal

pub add_block-requires-clause-start : goal.add_block-requires-clause-start
add_block-requires-clause-start c =
    let b = c.args.stride * c.args.count in
    let i = c.loop-start.invariant in
    let f = block_fits c.requires.whole.0 i.blocks.0 c.loop-start.start b (length c.args.cells.now) c.requires.whole.1 i.blocks.1 (omega (arith, i.size, c.loop-start-test.true)) in
    let l = first_fits c.args.stride c.args.count f.some in
    omega arith

pub add_block-requires-clause-end : goal.add_block-requires-clause-end
add_block-requires-clause-end c =
    let b = c.args.stride * c.args.count in
    let i = c.loop-start.invariant in
    let f = block_fits c.requires.whole.0 i.blocks.0 c.loop-start.start b (length c.args.cells.now) c.requires.whole.1 i.blocks.1 (omega (arith, i.size, c.loop-start-test.true)) in
    omega (arith, f.fits, i.size)

pub add_block-requires-clause-sums : goal.add_block-requires-clause-sums
add_block-requires-clause-sums c =
    let b = c.args.stride * c.args.count in
    let i = c.loop-start.invariant in
    let f = block_fits c.requires.whole.0 i.blocks.0 c.loop-start.start b (length c.args.cells.now) c.requires.whole.1 i.blocks.1 (omega (arith, i.size, c.loop-start-test.true)) in
    let all = c.requires.sums in
    (all.0, sums_in_block c.args.stride c.args.count i.blocks.0 c.loop-start.start c.args.cells.now c.loop-start.cells all.0 c.requires.stride i.blocks.1 f.fits f.some i.rest all.1, λ k h l. all.2 k (omega (arith, f.fits)))

pub loop-start-preserved : goal.loop-start-preserved
loop-start-preserved c =
    let b = c.args.stride * c.args.count in
    let i = c.loop-start.invariant in
    let f = block_fits c.requires.whole.0 i.blocks.0 c.loop-start.start b (length c.args.cells.now) c.requires.whole.1 i.blocks.1 (omega (arith, i.size, c.loop-start-test.true)) in
    let e = c.add_block.ensures in
    record {
      blocks = (suc i.blocks.0, let s = i.blocks.1 in omega arith);
      sums = λ sums are k h. ⊎_elim
          (λ l. e.before k l ∙ i.sums sums are k l)
          (λ l. e.sums sums (sums_in_block c.args.stride c.args.count i.blocks.0 c.loop-start.start c.args.cells.now c.loop-start.cells sums c.requires.stride i.blocks.1 f.fits f.some i.rest are) k l h)
          (cases_lt k c.loop-start.start);
      rest = λ k l. e.after k l ∙ i.rest k (omega arith);
      size = omega (arith, e.size, i.size);
      within = f.fits;
    }
