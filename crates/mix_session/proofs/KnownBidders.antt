-- What is known of the bidders in order: one that is looked at, and all whose members make the market.
use Rattle.std.proofs.Common.{◌≡◌, ◌<◌, ◌≤◌, ◌∙◌, ℕ, List, [], ◌∷◌, length, get_or, map, replicate, sym, ap, arith, subst}
use Rattle.std.proofs.lemmas.List.{get_or-map, get_or-replicate, length-map, length-replicate}
use Rattle.std.proofs.lemmas.List.FromFn.{fill_by_all}
use Rattle.mix_cap.specs.declared.member.Member.{Member}
use Rattle.mix_text.specs.Auctions.{AuctionText}
use Rattle.mix_answer.specs.Refusals.{AreConvex, AreConvexBefore}
use Rattle.mix_answer.specs.Utilities.{Entrant, IsConvexEntrant, entrant_at, entrants_of}
use Rattle.mix_serve.specs.Admissions.{entrant_of}
use Rattle.mix_session.specs.declared.standing.Standing.{Standing}
use Rattle.mix_session.specs.declared.standing.Standing.TheVariants.{Convex, Open, Refused}
use Rattle.mix_session.specs.Standings.{AreStandings, AreTakenIn, AreTakenInBefore, HasStanding, IsTakenIn, standing_at}

-- a bidder that is known to be convex is so
taken_in_is_convex : (e : Entrant) (s : Standing) → HasStanding e s → IsTakenIn s → IsConvexEntrant e
taken_in_is_convex e Open stands taken = absurd taken
taken_in_is_convex e (Convex member) stands taken = stands.1
taken_in_is_convex e (Refused facet) stands taken = absurd taken

pub convex_before : (a : AuctionText) (standings : List Standing) (k : ℕ) → AreStandings a standings → k ≤ length a.bidders → AreTakenInBefore standings k → AreConvexBefore a k
convex_before a standings k stand few taken = λ j h. taken_in_is_convex (entrant_at a j) (standing_at standings j) (stand.each j (omega (arith, h, few))) (taken j h)

pub all_convex : (a : AuctionText) (standings : List Standing) → AreStandings a standings → AreTakenIn standings → AreConvex a
all_convex a standings stand taken = convex_before a standings (length a.bidders) stand (omega arith) (λ j h. taken j (let n = stand.count in omega (arith, n, h)))

-- members that stand for all bidders
there : (members : List Member) (k : ℕ) (none : Member) → k < length members → standing_at (map Convex members) k ≡ Convex (get_or members k none)
there members k none h = get_or-map Convex members k none Open h

stands_there : (e : Entrant) (s : Standing) (member : Member) → s ≡ Convex member → HasStanding e s → entrant_of member ≡ e
stands_there e s member same stands = (subst (HasStanding e) same stands).0

pub members_of_all : (a : AuctionText) (standings : List Standing) (members : List Member) → AreStandings a standings → standings ≡ map Convex members → map entrant_of members ≡ entrants_of a
members_of_all a standings [] stand e = fill_by_all (entrant_at a) [] (length a.bidders) (entrant_at a 0) (sym (ap length e) ∙ stand.count) (λ k h. absurd (let n = stand.count in let m = ap length e in omega (arith, n, m, h)))
members_of_all a standings (first ∷ rest) stand e =
    let members : List Member = first ∷ rest in
    let many : length (map Convex members) ≡ length members = length-map members Convex in
    let count : length members ≡ length a.bidders = sym many ∙ sym (ap length e) ∙ stand.count in
    fill_by_all (entrant_at a) (map entrant_of members) (length a.bidders) (entrant_of first) (length-map members entrant_of ∙ count) (λ k h.
    let within : k < length members = omega (arith, count, h) in
    let same : standing_at standings k ≡ Convex (get_or members k first) = ap (λ (list : List Standing). standing_at list k) e ∙ there members k first within in
    get_or-map entrant_of members k first (entrant_of first) within ∙ stands_there (entrant_at a k) (standing_at standings k) (get_or members k first) same (stand.each k h))

-- nothing is known of any bidder
pub nothing_stands : (a : AuctionText) (standings : List Standing) → standings ≡ replicate (length a.bidders) Open → AreStandings a standings
nothing_stands a standings e = record {
  count = ap length e ∙ length-replicate (length a.bidders) Open;
  each = λ k h. subst (HasStanding (entrant_at a k)) (sym (ap (λ (list : List Standing). standing_at list k) e ∙ get_or-replicate (length a.bidders) k Open Open h)) tt;
}
