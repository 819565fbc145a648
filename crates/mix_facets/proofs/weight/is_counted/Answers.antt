use Rattle.std.proofs.Common.{◌≡◌, suc, ◌<◌, arith, sym, ap, ◌∙◌}
use Rattle.mix_facets.specs.Points.{coordinate}
use Rattle.mix_facets.specs.Counted.{stays_below}
use Rattle.mix_facets.proofs.AllBelow.{all_to_more, all_to_less, all_to_reach}
use Rattle.mix_facets.proofs.weight.is_counted.Goals as goal

pub returns-then-not-stays_below : goal.returns-then-not-stays_below
returns-then-not-stays_below c =
    let i = c.args.level.now.first in
    let j = c.args.level.now.second in
    let g = ap (λ z. z.goods) c.level.view_is in
    let l : c.loop-choice.choice < suc c.args.level.now.goods = omega arith in
    all_to_less (suc c.args.level.now.goods) (stays_below i j (coordinate i j c.args.point.now.items) c.args.bid.now) c.loop-choice.choice l (sym c.if-not-stays_below.true ∙ c.stays_below.ensures)

pub loop-choice-preserved : goal.loop-choice-preserved
loop-choice-preserved c =
    let i = c.args.level.now.first in
    let j = c.args.level.now.second in
    all_to_more c.loop-choice.choice (stays_below i j (coordinate i j c.args.point.now.items) c.args.bid.now) c.loop-choice.invariant (sym c.stays_below.ensures ∙ c.if-not-stays_below.false)

pub returns : goal.returns
returns c =
    let i = c.args.level.now.first in
    let j = c.args.level.now.second in
    let g = ap (λ z. z.goods) c.level.view_is in
    let m = c.loop-choice-test.false in
    let e = c.loop-choice.auto.choice-end in
    let l : suc c.args.level.now.goods ≡ c.loop-choice.choice = omega arith in
    all_to_reach (suc c.args.level.now.goods) c.loop-choice.choice (stays_below i j (coordinate i j c.args.point.now.items) c.args.bid.now) l c.loop-choice.invariant
