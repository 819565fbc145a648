use Rattle.std.proofs.Common.{arith}
use Rattle.std.proofs.lemmas.Int.{ints}
use Rattle.mix_law.proofs.Ranges.{value_range}
use Rattle.mix_cap.specs.Laws.{capped_l_natural}
use Rattle.mix_cap.specs.Cappeds.{units_cap}
use Rattle.mix_validity.proofs.Tops.{tops_lie}
use Rattle.mix_cap.proofs.capped.CappedConvex.value.Goals as goal

pub returns-clause-range : goal.returns-clause-range
returns-clause-range c =
    let s = c.args.self.now in
    let laws = capped_l_natural s.list.goods (units_cap s) s.list.bids s.proper s.positive in
    let r = value_range s.some_goods laws (tops_lie s.list.goods s.list.bids s.proper) c.args.prices.now.items c.requires in
    let e = c.utility.ensures.value in
    let u = c.utility.ensures.range in
    (omega (arith, ints, r.0, r.1), omega (arith, ints, r.0, r.1))
