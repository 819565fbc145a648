use Rattle.std.proofs.Common.{arith}
use Rattle.std.proofs.lemmas.Int.{ints}
use Rattle.mix_law.specs.Totals.{total_nonnegative}
use Rattle.mix_validity.specs.Laws.{valid_l_natural}
use Rattle.mix_validity.proofs.valid_list.ValidListConvex.total.Goals as goal

pub returns-clause-range : goal.returns-clause-range
returns-clause-range c =
    let valid = c.args.self.now in
    let t = total_nonnegative valid.some_goods (valid_l_natural valid.list.goods valid.list.bids valid.proper valid.valid) in
    let r = c.total.ensures.range in
    let e = c.total.ensures.value in
    (omega (arith, ints, r.0, r.1), omega (arith, ints, r.0, r.1))
