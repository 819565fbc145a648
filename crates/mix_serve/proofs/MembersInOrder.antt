-- The bidders that are taken in one after the other, and the refusal that ends this.
use Rattle.std.proofs.Common.{◌≡◌, ◌<◌, ◌+◌, ◌∙◌, ℕ, List, [], ◌∷◌, ◌++◌, length, get_or, map, refl, sym, ap, ap₂, arith, subst}
use Rattle.std.proofs.Math.ListN.{get_or-map}
use Rattle.std.proofs.lemmas.List.{length-map, map-append}
use Rattle.std.proofs.lemmas.List.FromFn.{map-range_with_len_more}
use Rattle.mix_num.specs.Orders.{places}
use Rattle.mix_bids.specs.Facets.{IsNegativeFacet}
use Rattle.mix_cap.specs.MemberLaws.{goods_of}
use Rattle.mix_cap.specs.declared.member.Member.{Member}
use Rattle.mix_cap.specs.declared.member.Member.TheVariants.{Capped, List as Listed}
use Rattle.mix_text.specs.Auctions.{AuctionText, IsAuction}
use Rattle.mix_text.specs.Bidders.{list_at}
use Rattle.mix_answer.specs.Refusals.{AreConvexBefore}
use Rattle.mix_answer.specs.Utilities.{Entrant, IsConvexEntrant, entrant_at, entrants_of}
use Rattle.mix_answer.proofs.Entrants.{entrant-there, length-entrants}
use Rattle.mix_answer.proofs.TrueRefusals.{list_at_ok}
use Rattle.mix_serve.specs.Admissions.{IsRefusedAt, IsRefusedFirst, entrant_of}
use Rattle.mix_serve.specs.declared.admission.Stopped.{Stopped}
use Rattle.mix_serve.specs.declared.admission.Stopped.TheVariants.{Memory, Refused}

-- one more bidder is taken in
pub one_more : (a : AuctionText) (k : ℕ) (members now : List Member) (member : Member) → entrant_of member ≡ entrant_at a k → now ≡ members ++ member ∷ []
    → map entrant_of members ≡ map (entrant_at a) (places k) → map entrant_of now ≡ map (entrant_at a) (places (k + 1))
one_more a k members now member same added so_far =
    ap (λ (taken : List Member). map entrant_of taken) added
    ∙ map-append entrant_of members (member ∷ [])
    ∙ ap₂ (λ (es : List Entrant) (e : Entrant). es ++ e ∷ []) so_far same
    ∙ sym (map-range_with_len_more (entrant_at a) 0 k k (omega arith))

-- a bidder is refused, where each bidder before it is convex
pub refused_first : (a : AuctionText) (k : ℕ) (stopped : Stopped) → k < length a.bidders → AreConvexBefore a k → IsRefusedAt a k stopped → IsRefusedFirst a stopped
refused_first a k (Refused r) h convex at = record {
  bidder = subst (λ (j : ℕ). j < length a.bidders) (sym at.0) h;
  first = subst (AreConvexBefore a) (sym at.0) convex;
  refused = subst (λ (j : ℕ). ¬ IsConvexEntrant (entrant_at a j)) (sym at.0) at.1;
  facet = subst (λ (j : ℕ). IsNegativeFacet (list_at a.bidders j) r.first r.second r.prices.items r.weight) (sym at.0) at.2;
}
refused_first a k Memory h convex at = tt

-- a member is over the goods of the bidder that it stands for
member_goods : (member : Member) → goods_of member ≡ (entrant_of member).list.goods
member_goods (Listed valid) = refl
member_goods (Capped capped) = refl

-- there are as many as the auction has bidders
pub members_count : (a : AuctionText) (members : List Member) → map entrant_of members ≡ entrants_of a → length members ≡ length a.bidders
members_count a members same = sym (length-map members entrant_of) ∙ ap (λ (es : List Entrant). length es) same ∙ length-entrants a

-- all are over the goods of the auction
pub same_goods : (a : AuctionText) (members : List Member) → IsAuction a → map entrant_of members ≡ entrants_of a → (k : ℕ) (none : Member) → k < length members → goods_of (get_or members k none) ≡ length a.goods
same_goods a members sound same k none h =
    let count = members_count a members same in
    let there : k < length a.bidders = omega (arith, count, h) in
    let is : entrant_of (get_or members k none) ≡ entrant_at a k = sym (get_or-map entrant_of members k none) ∙ ap (λ (es : List Entrant). get_or es k (entrant_of none)) same ∙ entrant-there a k (entrant_of none) there in
    member_goods (get_or members k none)
    ∙ ap (λ (e : Entrant). e.list.goods) is
    ∙ (list_at_ok a k sound there).goods
