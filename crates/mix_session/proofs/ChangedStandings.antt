-- What is known of the bidders stays true where one of them leaves.
use Rattle.std.proofs.Common.{◌≡◌, ◌<◌, ◌≤◌, ◌+◌, ℕ, ℤ, List, [], length, sym, ap, ap₂, arith, subst, ⊎_elim, Option, Some, None}
use Rattle.std.specs.Prelude.{remove}
use Rattle.std.proofs.lemmas.Bool.{cases_lt}
use Rattle.std.proofs.lemmas.List.Edits.{get_or-remove_above, get_or-remove_below, length-remove}
use Rattle.mix_bids.specs.Bids.{Book}
use Rattle.mix_text.specs.Auctions.{AuctionText, IsAuction}
use Rattle.mix_text.specs.Bidders.{list_at, place_of}
use Rattle.mix_text.specs.Caps.{cap_at}
use Rattle.mix_text.specs.Changes.{without, without_at, without_found}
use Rattle.mix_text.proofs.ChangedAuctions.{found_below}
use Rattle.mix_answer.specs.Utilities.{Entrant, entrant_at}
use Rattle.mix_session.specs.declared.standing.Standing.{Standing}
use Rattle.mix_session.specs.declared.standing.Standing.TheVariants.{Open}
use Rattle.mix_session.specs.Standings.{AreStandings, HasStanding, standing_at}

abbrev Bidder : Type 0
Bidder = List ℕ × Book

abbrev nobody : Bidder
nobody = ([], record { goods = 0; bids = [] })

-- one who has the same list and the same cap as another
same_stands : (a b : AuctionText) (i j : ℕ) (s t : Standing) → list_at b.bidders j ≡ list_at a.bidders i → cap_at b.caps j ≡ cap_at a.caps i → t ≡ s → HasStanding (entrant_at a i) s → HasStanding (entrant_at b j) t
same_stands a b i j s t list cap same stands =
    let entrant : entrant_at b j ≡ entrant_at a i = ap₂ (λ (l : Book) (c : Option ℤ). record { list = l; cap = c }) list cap in
    subst (λ (e : Entrant). HasStanding e t) (sym entrant) (subst (HasStanding (entrant_at a i)) (sym same) stands)

-- a bidder leaves
one_leaves : (a : AuctionText) (standings : List Standing) (k : ℕ) → IsAuction a → AreStandings a standings → k < length a.bidders → AreStandings (without_at a k) (remove standings k)
one_leaves a standings k sound stand h = record {
  count = let n = stand.count in let p = length-remove standings k (omega (arith, n, h)) in let q = length-remove a.bidders k h in omega (arith, n, p, q);
  each = λ j l. ⊎_elim (λ b. below j (let q = length-remove a.bidders k h in omega (arith, q, l)) b) (λ b. above j (let q = length-remove a.bidders k h in omega (arith, q, l)) b) (cases_lt j k);
}
  where
    below : (j : ℕ) → j < length a.bidders → j < k → HasStanding (entrant_at (without_at a k) j) (standing_at (remove standings k) j)
    below j l b = same_stands a (without_at a k) j j (standing_at standings j) (standing_at (remove standings k) j)
        (ap (λ (x : Bidder). x.1) (get_or-remove_below a.bidders k nobody j b h))
        (get_or-remove_below a.caps k None j b (let m = sound.caps.size in omega (arith, m, h)))
        (get_or-remove_below standings k Open j b (let n = stand.count in omega (arith, n, h)))
        (stand.each j l)

    above : (j : ℕ) → j + 1 < length a.bidders → k ≤ j → HasStanding (entrant_at (without_at a k) j) (standing_at (remove standings k) j)
    above j l b = same_stands a (without_at a k) (j + 1) j (standing_at standings (j + 1)) (standing_at (remove standings k) j)
        (ap (λ (x : Bidder). x.1) (get_or-remove_above a.bidders k nobody j b h))
        (get_or-remove_above a.caps k None j b (let m = sound.caps.size in omega (arith, m, h)))
        (get_or-remove_above standings k Open j b (let n = stand.count in omega (arith, n, h)))
        (stand.each (j + 1) l)

pub left : (a : AuctionText) (standings now : List Standing) (name : List ℕ) (k : ℕ) → IsAuction a → AreStandings a standings → place_of name a.bidders ≡ Some k → now ≡ remove standings k → AreStandings (without a name) now
left a standings now name k sound stand e f =
    subst (λ (place : Option ℕ). AreStandings (without_found a place) now) (sym e)
    (subst (AreStandings (without_at a k)) (sym f) (one_leaves a standings k sound stand (found_below name a.bidders k e)))
