use Rattle.std.proofs.Common.{◌≡◌, [], ◌∷◌, ◌++◌, arith, ap, ◌∙◌, length, length-append, to_z, of_z, w64}
use Rattle.std.proofs.lemmas.Int.{ints}
use Rattle.std.proofs.lemmas.List.Elements.{All-push, All-same}
use Rattle.mix_num.specs.Ranges.{Lies}
use Rattle.mix_facets.specs.Points.{prices_at}
use Rattle.mix_facets.proofs.PointPrices.{prices_step, prices_all}
use Rattle.mix_facets.proofs.point.price_of.Goals as goal
use Rattle.mix_facets.proofs.point.price_of.Goals.{After-push}

-- one more price is written
written : (c : After-push) → c.push.new.self.items ≡ c.loop-good.prices.items ++ c.price_at.result ∷ []
written c =
    let r = c.price_at.ensures.range in
    let e : to_z w64 (of_z w64 c.price_at.result) ≡ c.price_at.result = omega (arith, ints) in
    c.push.ensures.items ∙ ap (λ z. c.loop-good.prices.items ++ z ∷ []) e

pub loop-good-preserved : goal.loop-good-preserved
loop-good-preserved c = record {
  size = omega (arith, ap length (written c), length-append c.loop-good.prices.items (c.price_at.result ∷ []), c.loop-good.invariant.size);
  value = prices_step (prices_at c.args.level.now c.args.point.now.items) c.loop-good.prices.items c.push.new.self.items c.price_at.result c.loop-good.good c.loop-good.invariant.size c.loop-good.invariant.value (written c) c.price_at.ensures.value;
  range = All-same (Lies 2000000) _ _ (written c) (All-push (Lies 2000000) c.loop-good.prices.items c.price_at.result c.loop-good.invariant.range c.price_at.ensures.range);
}

pub returns-clause-value : goal.returns-clause-value
returns-clause-value c =
    let v = c.level.view_is in
    let i = ap (λ z. z.first) v in
    let j = ap (λ z. z.second) v in
    let g = ap (λ z. z.goods) v in
    prices_all c.args.level.now c.args.point.now.items c.loop-good.prices.items (omega (arith, c.level.invariant.0)) (λ k l. c.loop-good.invariant.value k (omega arith))
