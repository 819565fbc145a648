-- The first reason why an outcome isn't true, where the tests before it pass.
use Rattle.std.proofs.Common.{◌≡◌, ◌≢◌, ◌<◌, ℕ, ℤ, pos, [], ◌∷◌, length, get_or, arith}
use Rattle.std.proofs.lemmas.Int.{ints}
use Rattle.mix_num.specs.Vectors.{with_null}
use Rattle.mix_num.specs.Sums.{dot_of}
use Rattle.mix_law.specs.Demands.{IsDemanded}
use Rattle.mix_market.specs.Lyapunov.{lyapunov}
use Rattle.mix_law.specs.Clearings.{bidder_utility}
use Rattle.mix_text.specs.Auctions.{AuctionText}
use Rattle.mix_answer.specs.Utilities.{utilities_of}
use Rattle.mix_answer.specs.declared.outcome.Answer.{Answer}
use Rattle.mix_answer.specs.declared.outcome.Outcome.{Outcome}
use Rattle.mix_answer.specs.declared.outcome.Outcome.TheVariants.{Cleared, Refused}
use Rattle.mix_answer.specs.declared.refusal.Refusal.{Refusal}
use Rattle.mix_check.specs.declared.reason.Reason.TheVariants.{Demand, Earlier, Lower, Pay, Sum}
use Rattle.mix_check.specs.Reasons.{FallsFreely, IsOverDemand, bundle_of, payment_of, sum_of_good, weight_of}
use Rattle.mix_check.specs.Orders.{IsFirstReason, NoneBefore}
use Rattle.mix_check.specs.Tests.{IsFirstInvalid}

-- the weight is the facet weight, and a bidder before the refused one isn't convex
pub earlier_first : (a : AuctionText) (r : Refusal) (k : ℕ) → weight_of a r ≡ r.weight → IsFirstInvalid a r.bidder k → IsFirstReason a (Refused r) (Earlier k)
earlier_first a r k e first = record { holds = (first.within, first.invalid); first = grind (arith, ints) }

module _ (a : AuctionText) (answer : Answer) where
  abbrev outcome : Outcome
  outcome = Cleared answer

  pub sum_first : (i : ℕ) (sum : ℤ) → NoneBefore a outcome (4 ∷ []) → i < length a.goods → sum ≡ sum_of_good answer i → sum ≢ get_or a.supply i (pos 0)
      → ((j : ℕ) → j < i → sum_of_good answer j ≡ get_or a.supply j (pos 0)) → IsFirstReason a outcome (Sum i sum)
  sum_first i sum none l is other before = record { holds = (l, is, other); first = grind (arith, ints) }

  abbrev Demands : ℕ → Type 0
  Demands k = IsDemanded (length a.goods) (bidder_utility (utilities_of a) k) answer.prices.items (bundle_of answer k)

  pub demand_first : (k set : ℕ) → NoneBefore a outcome (6 ∷ []) → k < length a.bidders
      → IsOverDemand (length a.goods) (bidder_utility (utilities_of a) k) answer.prices.items (bundle_of answer k) set
      → ((j : ℕ) → j < k → Demands j) → IsFirstReason a outcome (Demand k set)
  demand_first k set none l over before = record { holds = (l, over); first = grind (arith, ints) }

  abbrev Falls : ℕ → Type 0
  Falls set = FallsFreely (length a.goods) (lyapunov (utilities_of a) a.supply) (with_null a.reserve) (with_null answer.prices.items) set

  pub fall_first : (set : ℕ) → NoneBefore a outcome (7 ∷ []) → Falls set → ((s : ℕ) → s < set → ¬ Falls s) → IsFirstReason a outcome (Lower set)
  fall_first set none falls before = record { holds = falls; first = grind (arith, ints) }

  pub pay_first : (k : ℕ) (amount : ℤ) → NoneBefore a outcome (8 ∷ []) → k < length a.bidders → amount ≡ dot_of answer.prices.items (bundle_of answer k) → payment_of answer k ≢ amount
      → ((j : ℕ) → j < k → payment_of answer j ≡ dot_of answer.prices.items (bundle_of answer j)) → IsFirstReason a outcome (Pay k amount)
  pay_first k amount none l is other before = record { holds = (l, is, other); first = grind (arith, ints) }
