-- What a session knows of the bidders.
use Rattle.std.specs.Prelude.{◌≡◌, ◌<◌, ℕ, ℤ, List, length, get_or}
use Rattle.mix_bids.specs.Facets.{IsNegativeFacet}
use Rattle.mix_text.specs.Auctions.{AuctionText}
use Rattle.mix_answer.specs.Utilities.{Entrant, IsConvexEntrant, entrant_at}
use Rattle.mix_serve.specs.Admissions.{entrant_of}
use Rattle.mix_session.specs.declared.standing.Standing.{Standing}
use Rattle.mix_session.specs.declared.standing.Standing.TheVariants.{Convex, Open, Refused}
use Rattle.mix_session.specs.Sessions.{AreReached}

-- what is known of a bidder is true: the member stands for it and it is convex, or it isn't, as a facet of its list shows; or nothing is known
abbrev pub HasStanding : Entrant → Standing → Type 0
HasStanding e Open = Unit {0}
HasStanding e (Convex member) = (entrant_of member ≡ e) × IsConvexEntrant e
HasStanding e (Refused facet) = ¬ IsConvexEntrant e × IsNegativeFacet e.list facet.first facet.second facet.prices.items facet.weight

-- it is known whether the bidder is convex
abbrev pub IsKnown : Standing → Type 0
IsKnown Open = ⊥
IsKnown (Convex member) = Unit {0}
IsKnown (Refused facet) = Unit {0}

-- the bidder is known to be convex
abbrev pub IsTakenIn : Standing → Type 0
IsTakenIn Open = ⊥
IsTakenIn (Convex member) = Unit {0}
IsTakenIn (Refused facet) = ⊥

-- what is known at a place
abbrev pub standing_at : List Standing → ℕ → Standing
standing_at standings k = get_or standings k Open

-- each of the first k bidders is known to be convex, and all are
abbrev pub AreTakenInBefore : List Standing → ℕ → Type 0
AreTakenInBefore standings k = (j : ℕ) → j < k → IsTakenIn (standing_at standings j)

abbrev pub AreTakenIn : List Standing → Type 0
AreTakenIn standings = AreTakenInBefore standings (length standings)

-- what is known of the bidders in order
pub record AreStandings (a : AuctionText) (standings : List Standing) : Type 0 where
  pub count : length standings ≡ length a.bidders
  pub each : (k : ℕ) → k < length a.bidders → HasStanding (entrant_at a k) (standing_at standings k)

-- what holds of a session's last prices and of what it knows of the bidders
pub record IsSession (a : AuctionText) (last : List ℤ) (standings : List Standing) : Type 0 where
  pub reached : AreReached a last
  pub known : AreStandings a standings
