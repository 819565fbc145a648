-- A session as contracts see it, and what an outcome leaves of it.
use Rattle.std.specs.Prelude.{◌≡◌, ◌≤ℤ◌, ◌+ℤ◌, ℕ, ℤ, pos, List, length}
use Rattle.mix_num.specs.Sellers.{AreAmounts}
use Rattle.mix_num.specs.Vectors.{Vector, with_null}
use Rattle.mix_text.specs.Auctions.{AuctionText}
use Rattle.mix_market.specs.Gaps.{greatest_gap}
use Rattle.mix_market.specs.Lyapunov.{IsBelow, IsLeastPoint, lyapunov}
use Rattle.mix_answer.specs.Utilities.{utilities_of}
use Rattle.mix_answer.specs.declared.outcome.Answer.{Answer}
use Rattle.mix_answer.specs.declared.outcome.Outcome.{Outcome}
use Rattle.mix_answer.specs.declared.outcome.Outcome.TheVariants.{Cleared, Refused}

-- the auction as it stands, and the prices from which those of its next outcome are found
pub record SessionText : Type 0 where
  pub auction : AuctionText
  pub last : List ℤ

-- prices at which an auction may end: an amount for each good, none below its reserve
pub record AreReached (a : AuctionText) (prices : List ℤ) : Type 0 where
  pub amounts : AreAmounts (length a.goods) prices
  pub above : IsBelow (length a.goods) (with_null a.reserve) (with_null prices)

-- the last prices after an outcome: those of the answer, or where it is a refusal those before it
abbrev pub last_after : List ℤ → Outcome → List ℤ
last_after last (Refused r) = last
last_after last (Cleared answer) = answer.prices.items

-- a refusal takes no step
abbrev pub TakesNone : ℕ → ℕ → Outcome → Type 0
TakesNone before after (Refused r) = after ≡ before
TakesNone before after (Cleared answer) = Unit {0}

-- an answer that is found from the last prices in few steps: for each least point of the auction's Lyapunov function at or above them, one
-- step for each unit of the greatest rise to it, one for each unit of the greatest fall from it to the answer's prices, and two more
abbrev pub IsFoundInSteps : AuctionText → List ℤ → ℕ → ℕ → Answer → Type 0
IsFoundInSteps a last before after answer = (high : Vector) → high 0 ≡ pos 0 → IsLeastPoint (length a.goods) (lyapunov (utilities_of a) a.supply) (with_null last) high
    → pos after ≤ℤ (((pos before +ℤ greatest_gap (length a.goods) high (with_null last)) +ℤ greatest_gap (length a.goods) high (with_null answer.prices.items)) +ℤ pos 2)
