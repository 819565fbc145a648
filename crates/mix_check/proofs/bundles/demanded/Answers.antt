use Rattle.std.proofs.Common.{◌<◌, length, below_more, refl, sym, arith}
use Rattle.std.proofs.lemmas.Bool.{false≢true}
use Rattle.mix_text.specs.AuctionTexts.{auction_text}
use Rattle.mix_check.proofs.DemandTests.{does_demand, over_demand}
use Rattle.mix_check.proofs.FirstReasons.{demand_first}
use Rattle.mix_check.proofs.bundles.demanded.Goals as goal

pub returns-in-Some-clause-reason : goal.returns-in-Some-clause-reason
returns-in-Some-clause-reason c =
    let lt : c.loop-bidder.bidder < length c.args.auction.now.bidders = omega arith in
    let over = over_demand (auction_text c.args.auction.now) c.args.answer.now c.args.auction.now.sound c.requires.shape c.requires.convex c.loop-bidder.bidder lt c.args.tables.now.bidders.items c.requires.tables.bidders c.index.result.now c.index.ensures c.get.result.now c.get.ensures
    c.in-Some.set (λ fits. false≢true (sym (c.in-Some.ensures.fits.1 fits))) c.in-Some.ensures.more c.in-Some.ensures.first in
    demand_first (auction_text c.args.auction.now) c.args.answer.now c.loop-bidder.bidder c.in-Some.set c.requires.before lt over c.loop-bidder.invariant

pub loop-bidder-preserved : goal.loop-bidder-preserved
loop-bidder-preserved c =
    let lt : c.loop-bidder.bidder < length c.args.auction.now.bidders = omega arith in
    below_more _ _ c.loop-bidder.invariant
    (does_demand (auction_text c.args.auction.now) c.args.answer.now c.args.auction.now.sound c.requires.shape c.requires.convex c.loop-bidder.bidder lt c.args.tables.now.bidders.items c.requires.tables.bidders c.index.result.now c.index.ensures c.get.result.now c.get.ensures (c.in_default.ensures.fits.0 refl))
