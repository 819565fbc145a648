use Rattle.std.proofs.Common.{arith}
use Rattle.std.proofs.lemmas.Int.{ints}
use Rattle.mix_law.proofs.Ranges.{value_range}
use Rattle.mix_validity.specs.Laws.{valid_l_natural}
use Rattle.mix_validity.proofs.Tops.{tops_lie}
use Rattle.mix_validity.proofs.valid_list.ValidListConvex.value.Goals as goal

pub returns-clause-range : goal.returns-clause-range
returns-clause-range c =
    let valid = c.args.self.now in
    let laws = valid_l_natural valid.list.goods valid.list.bids valid.proper valid.valid in
    let r = value_range valid.some_goods laws (tops_lie valid.list.goods valid.list.bids valid.proper) c.args.prices.now.items c.requires in
    let e = c.utility.ensures.value in
    (omega (arith, ints, r.0, r.1), omega (arith, ints, r.0, r.1))
