use Rattle.std.proofs.Common.{◌∙◌, sym, ap, arith, ◌<◌, ◌+◌, length, to_z-of_z}
use Rattle.mix_text.specs.Reading.{number_in}
use Rattle.mix_answer.proofs.Turns.{rest_wrong}
use Rattle.mix_answer.proofs.row_reading.read_each.Goals as goal

pub returns-in-Err-clause-wrong : goal.returns-in-Err-clause-wrong
returns-in-Err-clause-wrong c =
    let low = c.ranges.low in
    let high = c.ranges.high in
    let e = simp to_z-of_z at c.in-Err.ensures in
    let before = simp to_z-of_z at c.loop-j.invariant.so_far in
    let below : c.loop-j.j < c.args.count = omega arith in
    let here : c.args.first + c.loop-j.j < length c.args.row.now.fields = omega arith in
    sym before ∙ rest_wrong (number_in c.args.low c.args.high) c.loop-j.numbers.items c.args.first c.args.count c.loop-j.j c.args.row.now.fields c.in-Err.code below here (ap (number_in c.args.low c.args.high) (sym c.field.ensures) ∙ sym e)
