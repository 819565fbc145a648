use Rattle.std.proofs.Common.{◌≡◌, inl, ap, rules}
use Rattle.mix_text.specs.AuctionTexts.{auction_text}
use Rattle.mix_serve.specs.Admissions.{IsMarketOf}
use Rattle.mix_serve.proofs.AuctionPrices.{least_of_auction}
use Rattle.mix_run.specs.command.Trail.{trail_page}
use Rattle.mix_run.proofs.AuctionTrails.{trail_of_auction}
use Rattle.mix_run.proofs.command.trail.trailed.Goals as goal

pub returns-in_ok-bytes-in-Market-clause-output : goal.returns-in_ok-bytes-in-Market-clause-output
returns-in_ok-bytes-in-Market-clause-output c =
    let a = auction_text c.args.auction.now in
    let market = c.in-Market.market in
    let climb = c.in_ok-climb-in-Market.climb in
    let is : IsMarketOf a market = search rules in
    let sound = c.args.auction.now.sound in
    let text : c.in_ok-bytes-in-Market.bytes.items ≡ trail_page climb.steps climb.prices.items = search rules in
    let ensures = c.in_ok-climb-in-Market.ensures in
    inl (
      climb.steps,
      climb.prices.items,
      is.convex,
      trail_of_auction a market climb.steps climb.prices.items sound is ensures.trail,
      least_of_auction a market climb.prices.items sound is ensures.range.0 ensures.least,
      ap (λ bytes. record { status = 0; bytes = bytes }) text,
    )
