use Rattle.std.proofs.Common.{sym, ◌∙◌}
use Rattle.mix_text.specs.AuctionTexts.{auction_text}
use Rattle.mix_check.proofs.EitherKind.{capped_entrant}
use Rattle.mix_check.proofs.members.is_convex.Goals as goal

pub returns-in-Some : goal.returns-in-Some
returns-in-Some c = capped_entrant (auction_text c.args.auction.now) c.args.k c.in-Some.field-0 c.args.auction.now.sound c.requires (sym c.cap.ensures.value ∙ c.in-Some.is)
