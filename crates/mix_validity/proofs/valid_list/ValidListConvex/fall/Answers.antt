use Rattle.std.proofs.Common.{arith}
use Rattle.std.proofs.lemmas.Int.{ints}
use Rattle.mix_num.specs.Vectors.{members, with_null}
use Rattle.mix_law.proofs.Ranges.{fall_range}
use Rattle.mix_validity.specs.Laws.{valid_l_natural}
use Rattle.mix_validity.proofs.valid_list.ValidListConvex.fall.Goals as goal

pub returns-clause-range : goal.returns-clause-range
returns-clause-range c =
    let valid = c.args.self.now in
    let laws = valid_l_natural valid.list.goods valid.list.bids valid.proper valid.valid in
    let r = fall_range valid.some_goods laws (with_null c.args.prices.now.items) (members c.args.set) in
    let e = c.fall.ensures.value in
    (omega (arith, ints, r.0, r.1), omega (arith, ints, r.0, r.1))
