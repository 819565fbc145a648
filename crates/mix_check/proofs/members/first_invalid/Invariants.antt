use Rattle.mix_text.specs.AuctionTexts.{auction_text}
use Rattle.mix_answer.specs.Refusals.{AreConvexBefore}
use Rattle.mix_check.proofs.members.first_invalid.Given as goal

abbrev pub invariant-loop-k : goal.invariant-loop-k
invariant-loop-k l = AreConvexBefore (auction_text l.auction) l.k
