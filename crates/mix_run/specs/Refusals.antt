-- The output for an auction that is refused, and which texts are of such auctions.
use Rattle.std.specs.Prelude.{◌≡◌, ◌<◌, ℕ, List, length, Ok}
use Rattle.mix_text.specs.Auctions.{AuctionText}
use Rattle.mix_answer.specs.Outcomes.{outcome_text}
use Rattle.mix_answer.specs.declared.outcome.Outcome.TheVariants.{Refused}
use Rattle.mix_answer.specs.declared.refusal.Refusal.{Refusal}
use Rattle.mix_answer.specs.Refusals.{AreConvex, IsTrueRefusal}
use Rattle.mix_answer.specs.Utilities.{IsConvexEntrant, entrant_at}
use Rattle.mix_run.specs.Outputs.{Output}
use Rattle.mix_run.specs.Readings.{auction_alone}

-- an auction is refused, and its output is the text of a true refusal, whichever facet it tells of
abbrev pub TellsRefusal : AuctionText → Output → Type 0
TellsRefusal a output = (r : Refusal) × IsTrueRefusal a r × (output ≡ record { status = 1; bytes = outcome_text a (Refused r) })

-- a text of an auction alone, of which some bidder isn't convex
abbrev pub HasNonconvexBidder : List ℕ → Type 0
HasNonconvexBidder text = (a : AuctionText) × (auction_alone text ≡ Ok a) × (k : ℕ) × (k < length a.bidders) × ¬ IsConvexEntrant (entrant_at a k)

-- a text of an auction alone, of which each bidder is convex
abbrev pub HasConvexBidders : List ℕ → Type 0
HasConvexBidders text = (a : AuctionText) × (auction_alone text ≡ Ok a) × AreConvex a
