-- Answers for bidders that are known by their utilities, in a tie order. For proofs; no public clause rests on it.
use Rattle.std.specs.Prelude.{◌≡◌, ℕ, ◌+◌, ◌*◌, ◌<◌, ℤ, List, All, length, get_or}
use Rattle.mix_num.specs.Vectors.{Vector, with_null}
use Rattle.mix_num.specs.Ranges.{AreWithin}
use Rattle.mix_num.specs.Orders.{place_at}
use Rattle.mix_num.specs.Sums.{dot_of}
use Rattle.mix_num.specs.declared.pair.Tight.{Tight}
use Rattle.mix_market.specs.Lyapunov.{IsLeastPoint, lyapunov}
use Rattle.mix_law.specs.Certificates.{IsFirstTightPair}
use Rattle.mix_law.specs.Clearings.{IsSolution}
use Rattle.mix_answer.specs.Truths.{bundles_of}
use Rattle.mix_answer.specs.declared.outcome.Answer.{Answer}

-- for each bidder as they stand and each good in order its first tight pair
pub record AreFirstPairs (utilities : List (Vector → ℤ)) (supply reserve : List ℤ) (order : List ℕ) (prices : List ℤ) (bundles : List (List ℤ)) (pairs : List Tight) : Type 0 where
  pub count : length pairs ≡ length utilities * length supply
  pub first : (k j : ℕ) → k < length utilities → j < length supply
      → let pair = get_or pairs (place_at order k * length supply + j) (record { upper = 0; lower = 0 }) in
      IsFirstTightPair utilities supply reserve prices order bundles k j pair.upper pair.lower

-- the least point of the Lyapunov function, what solves the market there, what each bundle costs, and the first tight pairs
pub record IsAnswerFor (utilities : List (Vector → ℤ)) (supply reserve : List ℤ) (order : List ℕ) (answer : Answer) : Type 0 where
  pub range : AreWithin 1000000 (length supply) answer.prices.items
  pub least : IsLeastPoint (length supply) (lyapunov utilities supply) (with_null reserve) (with_null answer.prices.items)
  pub solution : IsSolution utilities supply reserve order answer.prices.items (bundles_of answer) answer.returns.items
  pub payments : All (λ share. share.payment ≡ dot_of answer.prices.items share.bundle.items) answer.shares
  pub tights : AreFirstPairs utilities supply reserve order answer.prices.items (bundles_of answer) answer.tights
