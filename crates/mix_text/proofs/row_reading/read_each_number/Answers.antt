use Rattle.std.proofs.Common.{◌∙◌, sym, arith, ◌<◌, length, to_z-of_z}
use Rattle.mix_text.specs.Reading.{number_in}
use Rattle.mix_text.proofs.Turns.{wrong_turn}
use Rattle.mix_text.proofs.row_reading.read_each_number.Goals as goal

pub returns-in-Err-clause-wrong : goal.returns-in-Err-clause-wrong
returns-in-Err-clause-wrong c =
    let low = c.ranges.low in
    let high = c.ranges.high in
    let e = simp to_z-of_z at c.in-Err.ensures in
    let before = simp to_z-of_z at c.loop-k.invariant.same in
    let here : c.loop-k.k < length c.args.row.now.fields = omega arith in
    sym before ∙ wrong_turn (number_in c.args.low c.args.high) c.loop-k.numbers.items c.args.row.now.fields c.loop-k.k c.in-Err.code here (sym e)
