use Rattle.std.proofs.Common.{below_more, subst}
use Rattle.mix_text.specs.AuctionTexts.{auction_text}
use Rattle.mix_check.specs.Tests.{TellsConvex}
use Rattle.mix_check.proofs.members.first_invalid.Goals as goal

pub loop-k-preserved : goal.loop-k-preserved
loop-k-preserved c = below_more _ _ c.loop-k.invariant (subst (TellsConvex (auction_text c.args.auction.now) c.loop-k.k) c.if-not-branch.false c.in_ok-is_convex.ensures)
