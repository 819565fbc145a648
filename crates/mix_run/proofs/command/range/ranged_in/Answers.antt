use Rattle.std.proofs.Common.{◌≡◌, ℤ, List, refl, subst, sym}
use Rattle.mix_text.specs.AuctionTexts.{auction_text}
use Rattle.mix_law.specs.Clearings.{CanClear}
use Rattle.mix_answer.specs.Utilities.{utilities_of}
use Rattle.mix_run.specs.command.Range.{IsHigh}
use Rattle.mix_run.proofs.HighPrices.{high_of_auction}
use Rattle.mix_run.proofs.command.range.ranged_in.Goals as goal

pub returns : goal.returns
returns c =
    let a = auction_text c.args.gross.now in
    let answer = c.in_ok-answer.answer in
    let served = c.in_ok-answer.ensures in
    let low = c.least_prices-low.result.items in
    let ceiling = c.args.ceiling.now.items in
    let same : answer.prices.items ≡ low = served.prices in
    let can : CanClear (utilities_of a) a.supply a.reserve low = subst (λ (prices : List ℤ). CanClear (utilities_of a) a.supply a.reserve prices) same served.true_answer.solution.least.clear in
    let found = c.highest.ensures in
    let high = high_of_auction a c.args.market.now ceiling low c.highest.result c.args.gross.now.sound c.requires.market can found.none found.greatest found.range in
    record {
      answer = answer;
      truth = served.true_answer;
      shape = served.shape;
      low = sym same;
      high = subst (λ (prices : List ℤ). IsHigh a ceiling prices c.highest.result) (sym same) high;
      trades = c.in_ok-trades.ensures.value;
      returns = refl;
    }
