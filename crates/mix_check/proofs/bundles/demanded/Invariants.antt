use Rattle.std.proofs.Common.{ℕ, ◌<◌, length}
use Rattle.mix_law.specs.Demands.{IsDemanded}
use Rattle.mix_law.specs.Clearings.{bidder_utility}
use Rattle.mix_text.specs.AuctionTexts.{auction_text}
use Rattle.mix_answer.specs.Utilities.{utilities_of}
use Rattle.mix_check.specs.Reasons.{bundle_of}
use Rattle.mix_check.proofs.bundles.demanded.Given as goal

abbrev pub invariant-loop-bidder : goal.invariant-loop-bidder
invariant-loop-bidder l = (j : ℕ) → j < l.bidder → IsDemanded (length l.auction.goods) (bidder_utility (utilities_of (auction_text l.auction)) j) l.answer.prices.items (bundle_of l.answer j)
