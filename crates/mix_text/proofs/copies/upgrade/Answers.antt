use Rattle.std.proofs.Common.{sym, subst}
use Rattle.mix_text.specs.Auctions.{AuctionText}
use Rattle.mix_text.specs.AuctionTexts.{auction_text}
use Rattle.mix_text.specs.Limits.{MeetsLimits}
use Rattle.mix_text.proofs.Upgrades.{meets_limits_of_two}
use Rattle.mix_text.proofs.copies.upgrade.Goals as goal

pub returns-clause-limits : goal.returns-clause-limits
returns-clause-limits c = λ meets. subst (λ (z : AuctionText). MeetsLimits (record z { format = 2 })) (sym c.in_ok-copy.ensures) (meets_limits_of_two (auction_text c.args.auction.now) c.args.auction.now.sound c.requires meets)
