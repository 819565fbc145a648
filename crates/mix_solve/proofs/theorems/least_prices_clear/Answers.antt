use Rattle.mix_text.specs.AuctionTexts.{auction_text}
use Rattle.mix_solve.proofs.AuctionLaws.{least_prices-exactly}
use Rattle.mix_solve.proofs.theorems.least_prices_clear.Goals as goal

pub returns : goal.returns
returns c = least_prices-exactly (auction_text c.args.auction.now) c.args.auction.now.sound
