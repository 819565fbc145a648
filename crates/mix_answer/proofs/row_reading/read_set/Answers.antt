use Rattle.std.proofs.Common.{sym, arith}
use Rattle.std.proofs.lemmas.Int.{ints}
use Rattle.mix_text.proofs.Spellings.{between_range}
use Rattle.mix_answer.proofs.row_reading.read_set.Goals as goal

pub set_numbered-requires-clause-low : goal.set_numbered-requires-clause-low
set_numbered-requires-clause-low c =
    let range = between_range _ _ _ _ (sym c.in_ok-number.ensures) in
    let low = range.0 in
    let high = range.1 in
    omega (arith, ints, low, high, c.from-most.ensures, c.bits.ensures.value, c.bits.ensures.range)

pub set_numbered-requires-clause-high : goal.set_numbered-requires-clause-high
set_numbered-requires-clause-high c =
    let range = between_range _ _ _ _ (sym c.in_ok-number.ensures) in
    let low = range.0 in
    let high = range.1 in
    omega (arith, ints, low, high, c.from-most.ensures, c.bits.ensures.value, c.bits.ensures.range)
