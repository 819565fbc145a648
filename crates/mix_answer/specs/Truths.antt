-- Which outcomes of an auction are true.
use Rattle.std.specs.Prelude.{◌≡◌, ◌<◌, ◌+◌, ◌*◌, ℕ, ℤ, List, length, map, get_or, All}
use Rattle.mix_num.specs.Orders.{place_at}
use Rattle.mix_num.specs.Sums.{dot_of}
use Rattle.mix_num.specs.declared.pair.Tight.{Tight}
use Rattle.mix_law.specs.Certificates.{IsFirstTightPair, IsTightPair}
use Rattle.mix_law.specs.Clearings.{IsSolution}
use Rattle.mix_text.specs.Auctions.{AuctionText}
use Rattle.mix_answer.specs.Refusals.{AreConvex, IsTrueRefusal}
use Rattle.mix_answer.specs.Utilities.{utilities_of}
use Rattle.mix_answer.specs.declared.outcome.Answer.{Answer}
use Rattle.mix_answer.specs.declared.outcome.Outcome.{Outcome}
use Rattle.mix_answer.specs.declared.outcome.Outcome.TheVariants.{Cleared, Refused}

-- what the bidders get
abbrev pub bundles_of : Answer → List (List ℤ)
bundles_of answer = map (λ share. share.bundle.items) answer.shares

-- the pair of the bidder at a place and of one of n goods, both counted from 0
abbrev pub pair_of : ℕ → Answer → ℕ → ℕ → Tight
pair_of n answer k j = get_or answer.tights (k * n + j) (record { upper = 0; lower = 0 })

-- for each bidder, in tie order, and for each good the pair is tight
abbrev pub HaveTights : AuctionText → Answer → Type 0
HaveTights a answer = (k j : ℕ) → k < length a.bidders → j < length a.goods
    → let pair = pair_of (length a.goods) answer (place_at a.order k) j in
    IsTightPair (utilities_of a) a.supply a.reserve answer.prices.items a.order (bundles_of answer) k j pair.upper pair.lower

-- and is the first tight pair
abbrev pub HaveFirstTights : AuctionText → Answer → Type 0
HaveFirstTights a answer = (k j : ℕ) → k < length a.bidders → j < length a.goods
    → let pair = pair_of (length a.goods) answer (place_at a.order k) j in
    IsFirstTightPair (utilities_of a) a.supply a.reserve answer.prices.items a.order (bundles_of answer) k j pair.upper pair.lower

-- a true answer: each bidder is convex; the prices are the least clearing prices, and the bundles and returns clear there and keep
-- the tie rule; each payment is what the bundle costs; and the pairs are tight
pub record IsTrueAnswer (a : AuctionText) (answer : Answer) : Type 0 where
  pub convex : AreConvex a
  pub solution : IsSolution (utilities_of a) a.supply a.reserve a.order answer.prices.items (bundles_of answer) answer.returns.items
  pub payments : All (λ share. share.payment ≡ dot_of answer.prices.items share.bundle.items) answer.shares
  pub tights : HaveTights a answer

-- a true outcome: a true refusal, or a true answer
abbrev pub IsTrueOutcome : AuctionText → Outcome → Type 0
IsTrueOutcome a (Refused r) = IsTrueRefusal a r
IsTrueOutcome a (Cleared answer) = IsTrueAnswer a answer
