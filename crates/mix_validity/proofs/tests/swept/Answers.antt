use Rattle.std.proofs.Common.{arith, ◌≤ℤ◌, pos}
use Rattle.std.proofs.lemmas.Int.{ints}
use Rattle.mix_num.specs.Vectors.{with_null}
use Rattle.mix_law.proofs.NewTables.{falls_fit, gains_fit}
use Rattle.mix_validity.proofs.tests.swept.Goals as goal

pub falls-requires-clause-range : goal.falls-requires-clause-range
falls-requires-clause-range g c = λ set h.
    let total = c.total-total.ensures in
    let small : g.D.Convex.total c.args.member.now ≤ℤ pos 8000000 = omega (arith, ints, total.value, total.range.1) in
    falls_fit (omega (arith, c.requires)) (g.D.Convex.l_natural c.args.member.now) small c.new-falls.result c.new-falls.ensures (with_null c.prices-prices.result.items) set

pub gains-requires-clause-range : goal.gains-requires-clause-range
gains-requires-clause-range g c = λ set h.
    let total = c.total-total.ensures in
    let small : g.D.Convex.total c.args.member.now ≤ℤ pos 8000000 = omega (arith, ints, total.value, total.range.1) in
    gains_fit (omega (arith, c.requires)) (g.D.Convex.l_natural c.args.member.now) small c.new-gains.result c.new-gains.ensures (with_null c.prices-prices.result.items) set
