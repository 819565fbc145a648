use Rattle.std.proofs.Common.{ℕ, ◌<◌}
use Rattle.mix_text.specs.AuctionTexts.{auction_text}
use Rattle.mix_check.specs.Tests.{HasTightPair}
use Rattle.mix_check.proofs.pairs.tight_of_turn.Given as goal

abbrev pub invariant-loop-good : goal.invariant-loop-good
invariant-loop-good l = (j : ℕ) → j < l.good → HasTightPair (auction_text l.auction) l.answer l.turn j
