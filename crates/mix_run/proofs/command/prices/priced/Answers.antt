use Rattle.std.proofs.Common.{◌≡◌, inl, ap, rules}
use Rattle.mix_text.specs.AuctionTexts.{auction_text}
use Rattle.mix_serve.specs.Admissions.{IsMarketOf}
use Rattle.mix_serve.proofs.AuctionPrices.{least_of_auction}
use Rattle.mix_run.specs.command.Prices.{prices_page}
use Rattle.mix_run.proofs.command.prices.priced.Goals as goal

pub returns-in_ok-bytes-in-Market-clause-output : goal.returns-in_ok-bytes-in-Market-clause-output
returns-in_ok-bytes-in-Market-clause-output c =
    let a = auction_text c.args.auction.now in
    let market = c.in-Market.market in
    let prices = c.least_prices-prices.result.items in
    let is : IsMarketOf a market = search rules in
    let text : c.in_ok-bytes-in-Market.bytes.items ≡ prices_page prices = search rules in
    let least = c.least_prices-prices.ensures in
    inl (prices, is.convex, least_of_auction a market prices c.args.auction.now.sound is least.range.0 least.least, ap (λ bytes. record { status = 0; bytes = bytes }) text)
