use Rattle.std.proofs.Common.{◌≡◌, ℕ, ◌<◌, ◌++◌, cond, refl, pos, arith, ap, ◌∙◌, length, get_or, take, drop}
use Rattle.std.proofs.lemmas.Int.{ints}
use Rattle.mix_bids.specs.declared.bid.Bid.{Bid}
use Rattle.mix_facets.specs.Levels.{bids_of}
use Rattle.mix_facets.specs.Grids.{size_of}
use Rattle.mix_facets.specs.Cells.{holds, leads, weight_held}
use Rattle.mix_facets.proofs.Weighing.{weight_step}
use Rattle.mix_facets.proofs.CellTurns.{written_over, part_lies}
use Rattle.mix_facets.proofs.cells.first_weights.Goals as goal

pub loop-number-preserved : goal.loop-number-preserved
loop-number-preserved c =
    let level = c.args.level.now in
    let grid = c.args.grid.now in
    let bs = bids_of c.args.list.now level in
    let old = c.loop-number.cells.items in
    let new = c.put.new.cells in
    let i = c.loop-number.invariant in
    let n = c.loop-number.number in
    let b = c.bid.result.now in
    let ok = c.loop-number.cells.ok in
    let value = c.deref_mut.ensures.value in
    let sizes = ap length value in
    let size = c.put.ensures.size in
    let back : take c.loop-number.cells.len (new ++ drop (length new) old) ≡ new = written_over c.loop-number.cells.len new old (omega arith) (omega arith) in
    let list = take c.loop-number.cells.len (new ++ drop (length new) old) in
    let l : n < length bs = omega (arith, c.loop-number-test.true, c.count-number-end.ensures.value) in
    let each = λ (k : ℕ) (h : k < size_of grid). ap (λ z. get_or z k (pos 0)) back ∙ c.put.ensures.each k h in
    let was = λ (k : ℕ). ap (λ z. get_or z k (pos 0)) value in
    record {
      size = ap length back ∙ (let s : length new ≡ size_of grid = omega (arith, i.size) in s);
      so_far = λ k h.
          let p = λ (z : Bid). holds 0 0 grid (leads level.first level.second z) k in
          weight_step p bs n b (cond (p b) b.weight (pos 0)) (get_or old k (pos 0)) (get_or list k (pos 0)) (weight_held level.first level.second 0 grid bs k) l c.bid.ensures.value refl (let e = each k h in let f = was k in omega (arith, ints)) (i.so_far k h);
      low = λ k h.
          let q = part_lies (holds 0 0 grid (leads level.first level.second b) k) b.weight c.bid.ensures.proper.weight in
          let e = each k h in let f = was k in let r = i.low k h in omega (arith, ints, q.0);
      high = λ k h.
          let q = part_lies (holds 0 0 grid (leads level.first level.second b) k) b.weight c.bid.ensures.proper.weight in
          let e = each k h in let f = was k in let r = i.high k h in omega (arith, ints, q.1);
    }
