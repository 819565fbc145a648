use Rattle.std.proofs.Common.{◌^◌, suc, arith}
use Rattle.std.proofs.lemmas.Int.{ints}
use Rattle.mix_num.specs.Vectors.{members, with_null}
use Rattle.mix_num.specs.Tables.{number_of}
use Rattle.mix_law.proofs.Ranges.{fall_range}
use Rattle.mix_market.proofs.SlopeTables.{grown}
use Rattle.mix_market.proofs.sums.add_falls.Goals as goal

pub returns-then-not-falls_by_parts-clause-low : goal.returns-then-not-falls_by_parts-clause-low
returns-then-not-falls_by_parts-clause-low g c = λ set.
    let y = c.args.buyer.now in
    let s = members set in
    (grown (number_of c.args.falls.now set) (number_of c.falls.new.out set) _ (g.D.Convex.total y) set (2 ^ suc (g.D.Convex.goods y)) (c.falls.ensures.sums set) (c.falls.ensures.others set) (fall_range c.requires.some (g.D.Convex.l_natural y) (with_null c.args.prices.now.items) s)).0

pub returns-then-not-falls_by_parts-clause-high : goal.returns-then-not-falls_by_parts-clause-high
returns-then-not-falls_by_parts-clause-high g c = λ set.
    let y = c.args.buyer.now in
    let s = members set in
    (grown (number_of c.args.falls.now set) (number_of c.falls.new.out set) _ (g.D.Convex.total y) set (2 ^ suc (g.D.Convex.goods y)) (c.falls.ensures.sums set) (c.falls.ensures.others set) (fall_range c.requires.some (g.D.Convex.l_natural y) (with_null c.args.prices.now.items) s)).1

pub returns-else-not-falls_by_parts-clause-high : goal.returns-else-not-falls_by_parts-clause-high
returns-else-not-falls_by_parts-clause-high g c = λ set.
    let range = fall_range c.requires.some (g.D.Convex.l_natural c.args.buyer.now) (with_null c.args.prices.now.items) (members 0) in
    omega (arith, ints, range.0, range.1)
