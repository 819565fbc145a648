use Rattle.std.proofs.Common.{◌∙◌}
use Rattle.mix_num.specs.Vectors.{with_null}
use Rattle.mix_market.specs.Markets.{goods_of, lyapunov_of}
use Rattle.mix_market.proofs.MarketFacts.{market_keeps}
use Rattle.mix_step.proofs.FirstSteepest.{least_of_slopes, no_slope, only_one}
use Rattle.mix_step.proofs.least.least_step.Goals as goal

pub least_among-requires-clause-none : goal.least_among-requires-clause-none
least_among-requires-clause-none g c = no_slope (market_keeps c.args.market.now) (with_null c.args.prices.now.items) c.slopes.new.out c.slopes.ensures.goods

pub returns-clause-minimal : goal.returns-clause-minimal
returns-clause-minimal g c = (least_of_slopes (market_keeps c.args.market.now) (with_null c.args.prices.now.items) c.slopes.new.out _ _ _ (c.len.ensures.value ∙ c.requires.0) c.slopes.ensures.goods c.least_among.ensures.first).minimal

pub returns-clause-only : goal.returns-clause-only
returns-clause-only g c = λ other goods minimal.
    let least = least_of_slopes (market_keeps c.args.market.now) (with_null c.args.prices.now.items) c.slopes.new.out _ _ _ (c.len.ensures.value ∙ c.requires.0) c.slopes.ensures.goods c.least_among.ensures.first in
    only_one (goods_of c.args.market.now) (lyapunov_of c.args.market.now) (with_null c.args.prices.now.items) other c.least_among.result.set goods.0 least.goods.0 minimal least.minimal

pub returns-clause-goods : goal.returns-clause-goods
returns-clause-goods g c = (least_of_slopes (market_keeps c.args.market.now) (with_null c.args.prices.now.items) c.slopes.new.out _ _ _ (c.len.ensures.value ∙ c.requires.0) c.slopes.ensures.goods c.least_among.ensures.first).goods

pub returns-clause-slope : goal.returns-clause-slope
returns-clause-slope g c = (least_of_slopes (market_keeps c.args.market.now) (with_null c.args.prices.now.items) c.slopes.new.out _ _ _ (c.len.ensures.value ∙ c.requires.0) c.slopes.ensures.goods c.least_among.ensures.first).is
