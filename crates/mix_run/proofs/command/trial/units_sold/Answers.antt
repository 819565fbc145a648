use Rattle.std.proofs.Common.{ℕ, ℤ, List, pos, ◌<◌, get_or, length, ap, arith}
use Rattle.std.proofs.lemmas.Int.{ints}
use Rattle.mix_run.proofs.SoldUnits.{one_sold}
use Rattle.mix_run.proofs.command.trial.units_sold.Goals as goal

pub loop-good-preserved : goal.loop-good-preserved
loop-good-preserved c =
    let i : ℕ = c.loop-good.good in
    let lt : i < length c.args.supply.now.items = omega arith in
    let lu : i < length c.args.returns.now.items = omega (arith, c.requires.returns.0) in
    let a = c.requires.supply.1 i (pos 0) lt in
    let b = c.requires.returns.1 i (pos 0) lu in
    let ea = ap (λ (y : List ℤ). get_or y i (pos 0)) c.deref.ensures.0 in
    let eb = ap (λ (y : List ℤ). get_or y i (pos 0)) c.deref-in-loop-good.ensures.0 in
    one_sold c.args.supply.now.items c.args.returns.now.items _ _ i _ c.loop-good.invariant c.push.ensures.items (omega (arith, ints, ea, eb, a, b))
