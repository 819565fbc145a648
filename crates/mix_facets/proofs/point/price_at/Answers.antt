use Rattle.std.proofs.Common.{◌≡◌, pos, arith, sym, ap, ap₂, ◌∙◌, get_or}
use Rattle.std.proofs.lemmas.Int.{ints}
use Rattle.mix_facets.specs.Points.{place, coordinate}
use Rattle.mix_facets.proofs.PointPrices.{IsNear, coordinate_near, price_other}
use Rattle.mix_facets.proofs.point.price_at.Goals as goal
use Rattle.mix_facets.proofs.point.price_at.Goals.{After-place}

-- the good is neither of the two, so it has a coordinate
near : (c : After-place) → IsNear c.args.level.now c.args.point.now.items c.args.good
near c =
    let i = c.level.invariant in
    let v = c.level.view_is in
    let p = ap (λ z. z.first) v in
    let q = ap (λ z. z.second) v in
    let g = ap (λ z. z.goods) v in
    coordinate_near c.args.level.now c.args.point.now.items c.args.good c.requires.point (omega (arith, i.0)) (omega (arith, i.1)) c.requires.good.1
    (λ e. c.if-good-level.false (e ∙ sym p)) (λ e. c.if-good-level-2.false (e ∙ sym q))

-- what is read is the coordinate
read : (c : After-place) → get_or c.deref.result.now c.place.result (pos 0) ≡ coordinate c.args.level.now.first c.args.level.now.second c.args.point.now.items c.args.good
read c =
    let v = c.level.view_is in
    ap₂ (λ us k. get_or us k (pos 0)) c.deref.ensures.0 (c.place.ensures.value ∙ ap₂ (λ i j. place i j c.args.good) (ap (λ z. z.first) v) (ap (λ z. z.second) v))

pub returns-clause-value : goal.returns-clause-value
returns-clause-value c =
    let k = (goal.at.returns-clause-value c).After-place in
    let n = near k in
    let l = n.low in
    let h = n.high in
    let r = read k in
    let f = c.first_price-first.ensures in
    let v = c.level.view_is in
    let p = price_other c.args.level.now c.args.point.now.items c.args.good
    (λ e. c.if-good-level.false (e ∙ sym (ap (λ z. z.first) v))) (λ e. c.if-good-level-2.false (e ∙ sym (ap (λ z. z.second) v))) in
    omega (arith, ints, f.value, f.range)

pub returns-clause-range : goal.returns-clause-range
returns-clause-range c =
    let k = (goal.at.returns-clause-range c).After-place in
    let n = near k in
    let l = n.low in
    let h = n.high in
    let r = read k in
    let f = c.first_price-first.ensures in
    (omega (arith, ints, f.range), omega (arith, ints, f.range))
