use Rattle.std.proofs.Common.{arith}
use Rattle.std.proofs.lemmas.Int.{ints}
use Rattle.mix_num.proofs.Additions.{sum-all_goods}
use Rattle.mix_check.proofs.pairs.null_of.Goals as goal

pub returns-clause-value : goal.returns-clause-value
returns-clause-value c =
    let s = sum-all_goods c.args.bundle.now.items c.len.result c.goods.result c.sum_over.result c.len.ensures.value c.goods.ensures c.sum_over.ensures.value in
    let near = c.sum_over.ensures.near 0 (omega (arith, ints), omega (arith, ints)) in
    let number = c.requires.number in
    omega (arith, ints, s, near, number)

pub returns-clause-range : goal.returns-clause-range
returns-clause-range c = λ m h.
    let near = c.sum_over.ensures.near 0 (omega (arith, ints), omega (arith, ints)) in
    let number = c.requires.number in
    (omega (arith, ints, h, near, number), omega (arith, ints, h, near, number))
