use Rattle.std.proofs.Common.{ℕ, ◌*◌, ◌<◌, length}
use Rattle.mix_num.specs.Vectors.{with_null}
use Rattle.mix_market.specs.Lyapunov.{lyapunov}
use Rattle.mix_text.specs.AuctionTexts.{auction_text}
use Rattle.mix_answer.specs.Utilities.{utilities_of}
use Rattle.mix_check.specs.Reasons.{FallsFreely}
use Rattle.mix_check.proofs.falls.none_lower.Given as goal

abbrev pub invariant-loop-goods : goal.invariant-loop-goods
invariant-loop-goods l = (s : ℕ) → s < 2 * l.goods → ¬ FallsFreely (length l.auction.goods) (lyapunov (utilities_of (auction_text l.auction)) l.auction.supply.items) (with_null l.auction.reserve.items) (with_null l.answer.prices.items) s
