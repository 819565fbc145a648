use Rattle.std.proofs.Common.{◌<◌, ◌∙◌, ◌++◌, ◌∷◌, [], All, List, length, ap₂, arith, subst, sym}
use Rattle.std.proofs.lemmas.List.Elements.{All-nil, All-push}
use Rattle.mix_own.specs.Trades.{IsTrade}
use Rattle.mix_own.specs.declared.trade.Trade.{Trade}
use Rattle.mix_own.proofs.TradesOf.{trades_all, trades_more, trades_none}
use Rattle.mix_own.proofs.trading.trades.Goals as goal

pub loop-k-init : goal.loop-k-init
loop-k-init c =
    let none = c.new-trades.ensures in
    let Fits = IsTrade (length c.args.answer.now.prices.items) in
    record { value = none ∙ sym (trades_none c.args.owned.now c.args.answer.now); range = subst (All Fits) (sym none) (All-nil Fits) }

pub loop-k-preserved : goal.loop-k-preserved
loop-k-preserved c =
    let k = c.loop-k.k in
    let answer = c.args.answer.now in
    let Fits = IsTrade (length answer.prices.items) in
    let inside : k < length answer.shares = omega arith in
    let pushed = c.in_ok-push.ensures.ok in
    let own = c.trade.ensures in
    record {
      value =
          pushed
          ∙ ap₂ (λ (xs : List Trade) (x : Trade). xs ++ x ∷ []) c.loop-k.invariant.value own.value
          ∙ sym (trades_more k c.args.owned.now answer c.get.result.now c.get-in-loop-k.result.now.items c.requires.count inside c.get.ensures c.get-in-loop-k.ensures);
      range = subst (All Fits) (sym pushed) (All-push Fits c.loop-k.trades c.trade.result c.loop-k.invariant.range own.range);
    }

pub returns-clause-value : goal.returns-clause-value
returns-clause-value c = c.loop-k.invariant.value ∙ trades_all c.loop-k.k c.args.owned.now c.args.answer.now c.requires.count (omega arith)
