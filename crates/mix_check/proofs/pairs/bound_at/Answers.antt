use Rattle.mix_text.specs.AuctionTexts.{auction_text}
use Rattle.mix_check.proofs.PairNumbers.{bound-is}
use Rattle.mix_check.proofs.pairs.bound_at.Goals as goal

pub returns-clause-value : goal.returns-clause-value
returns-clause-value c =
    bound-is (auction_text c.args.auction.now) c.args.answer.now c.args.auction.now.sound c.requires.shape c.args.turn c.bidder_at-bidder.result c.args.good c.requires.inside c.bidder_at-bidder.ensures.place c.args.table.now c.args.floor.now c.requires.turn
    c.pair_at-pair.result c.pair_at-pair.ensures.pair c.pair_at-pair.ensures.sets c.get.result.now c.get.ensures c.at-number.result c.at-number.ensures.value c.at-number.ensures.range
    c.bits.result c.bits.ensures.value c.pair_number.result c.pair_number.ensures.value c.pair_number.ensures.range
