use Rattle.std.proofs.Common.{w64, arith}
use Rattle.std.proofs.lemmas.Int.{ints, to_z-of_z}
use Rattle.mix_num.proofs.Additions.{product_lies}
use Rattle.mix_num.proofs.sums.cost.Goals as goal

pub overflow_mul-result : goal.overflow_mul-result
overflow_mul-result c =
    let lies = product_lies 4000000 8000000 _ _ c.requires.price c.requires.amount in
    let price = to_z-of_z w64 c.args.price c.ranges.price in
    let amount = to_z-of_z w64 c.args.amount c.ranges.amount in
    rw (price, amount) (omega (arith, ints))

pub returns-clause-value : goal.returns-clause-value
returns-clause-value c =
    let lies = product_lies 4000000 8000000 _ _ c.requires.price c.requires.amount in
    let price = to_z-of_z w64 c.args.price c.ranges.price in
    let amount = to_z-of_z w64 c.args.amount c.ranges.amount in
    rw (price, amount) (omega (arith, ints))

pub returns-clause-range : goal.returns-clause-range
returns-clause-range c =
    let lies = product_lies 4000000 8000000 _ _ c.requires.price c.requires.amount in
    let price = to_z-of_z w64 c.args.price c.ranges.price in
    let amount = to_z-of_z w64 c.args.amount c.ranges.amount in
    rw (price, amount) (omega (arith, ints), omega (arith, ints))
