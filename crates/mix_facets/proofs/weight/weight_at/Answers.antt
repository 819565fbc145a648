use Rattle.std.proofs.Common.{◌≡◌, ◌+ℤ◌, arith, sym, ap, ◌∙◌, to_z, of_z, w64}
use Rattle.std.proofs.lemmas.Int.{ints}
use Rattle.mix_bids.specs.Bids.{weight_where}
use Rattle.mix_bids.proofs.Lengths.{over_of}
use Rattle.mix_facets.specs.Levels.{bids_of}
use Rattle.mix_facets.specs.Points.{coordinate}
use Rattle.mix_facets.specs.Counted.{is_counted}
use Rattle.mix_facets.proofs.Weighing.{weight_step, weight_end}
use Rattle.mix_facets.proofs.Leasts.{point_weight}
use Rattle.mix_facets.proofs.weight.weight_at.Goals as goal

pub loop-number-preserved : goal.loop-number-preserved
loop-number-preserved c =
    let l = c.args.level.now in
    let p = is_counted l.goods l.first l.second (coordinate l.first l.second c.args.point.now.items) in
    let bs = bids_of c.args.list.now l in
    let sum = to_z w64 c.loop-number.weight-bits in
    let w = c.weight_if_counted-weight.result in
    let r = c.weight_if_counted-weight.ensures.range in
    let a = c.loop-number.invariant.low in
    let b = c.loop-number.invariant.high in
    let n = c.count-number-end.ensures in
    let t = c.loop-number-test.true in
    let e : to_z w64 (of_z w64 (sum +ℤ to_z w64 (of_z w64 w))) ≡ sum +ℤ w = omega (arith, ints) in
    record {
      so_far = weight_step p bs c.loop-number.number c.bid.result.now w sum (to_z w64 (of_z w64 (sum +ℤ to_z w64 (of_z w64 w)))) (weight_where p bs) (omega (arith, n.value)) c.bid.ensures.value c.weight_if_counted-weight.ensures.value e c.loop-number.invariant.so_far;
      low = omega (arith, ints);
      high = omega (arith, ints);
    }

pub returns-clause-value : goal.returns-clause-value
returns-clause-value c = λ x a.
    let l = c.args.level.now in
    let p = is_counted l.goods l.first l.second (coordinate l.first l.second c.args.point.now.items) in
    let bs = bids_of c.args.list.now l in
    let n = c.count-number-end.ensures in
    let e = weight_end p bs c.loop-number.number (to_z w64 c.loop-number.weight-bits) (weight_where p bs) (omega (arith, n.value)) c.loop-number.invariant.so_far in
    let g = c.requires.level.goods in
    let w = point_weight c.args.list.now.goods l c.args.list.now.bids c.args.point.now.items x (over_of c.args.list.now.goods c.args.list.now.bids n.proper) c.requires.level.order c.requires.level.within a in
    e ∙ ap (λ z. weight_where (is_counted z l.first l.second (coordinate l.first l.second c.args.point.now.items)) bs) g ∙ sym w
