-- The bidders as members, of either kind.
use Rattle.std.proofs.Common.{◌≡◌, ◌<◌, ℕ, ℤ, length, Option, Some, None, refl, sym, ap, ◌∙◌, subst}
use Rattle.std.specs.Int.RustNames.{unsigned_abs}
use Rattle.mix_bids.specs.Bids.{Book, NoneNegative}
use Rattle.mix_bids.specs.Caps.{ArePositive, capped_utility}
use Rattle.mix_bids.proofs.Lengths.{AreOver, over_of}
use Rattle.mix_bids.proofs.PositiveBids.{none_negative_of_positive}
use Rattle.mix_validity.proofs.ConvexLists.{none_negative_of}
use Rattle.mix_cap.specs.Cappeds.{book_of, cap_of}
use Rattle.mix_cap.proofs.UnderCaps.{capped_convex}
use Rattle.mix_cap.specs.declared.capped.Capped.{Capped}
use Rattle.mix_cap.specs.declared.member.Member.TheVariants.{Capped as CappedMember}
use Rattle.mix_text.specs.Auctions.{AuctionText, IsAuction}
use Rattle.mix_text.specs.Bidders.{list_at}
use Rattle.mix_text.specs.Caps.{cap_at}
use Rattle.mix_answer.specs.Utilities.{Entrant, IsConvexEntrant, entrant_at, entrant_utility}
use Rattle.mix_answer.proofs.TrueRefusals.{list_at_ok}
use Rattle.mix_check.specs.Tests.{StandsFor}

-- a list under a cap
abbrev under : Book → Option ℤ → Entrant
under book cap = record { list = book; cap = cap }

-- ---- no facet weight of a convex bidder is negative
none_negative_under : (n : ℕ) (cap : Option ℤ) (book : Book) → AreOver n book.bids → ((c : ℤ) → cap ≡ Some c → ArePositive book.bids) → IsConvexEntrant (under book cap) → NoneNegative n book.bids
none_negative_under n None book over positive convex = none_negative_of n book.bids over convex
none_negative_under n (Some c) book over positive convex = none_negative_of_positive n book.bids (positive c refl)

pub none_negative : (a : AuctionText) (k : ℕ) → IsAuction a → k < length a.bidders → IsConvexEntrant (entrant_at a k) → NoneNegative (list_at a.bidders k).goods (list_at a.bidders k).bids
none_negative a k sound l convex =
    let book : Book = list_at a.bidders k in
    let is = list_at_ok a k sound l in
    none_negative_under book.goods (cap_at a.caps k) book (subst (λ (n : ℕ). AreOver n book.bids) (sym is.goods) (over_of (length a.goods) book.bids is.bids)) (sound.caps.positive k) convex

-- ---- a bidder with a cap
pub capped_entrant : (a : AuctionText) (k : ℕ) (cap : ℤ) → IsAuction a → k < length a.bidders → cap_at a.caps k ≡ Some cap → IsConvexEntrant (entrant_at a k)
capped_entrant a k cap sound l e = capped_convex (length a.goods) (cap_at a.caps k) cap (list_at a.bidders k).bids (list_at_ok a k sound l).bids (sound.caps.positive k cap e) e

pub capped_stands : (a : AuctionText) (k : ℕ) (cap : ℤ) → IsAuction a → k < length a.bidders → cap_at a.caps k ≡ Some cap → (capped : Capped) → book_of capped ≡ list_at a.bidders k → cap_of capped ≡ cap → StandsFor a k (CappedMember capped)
capped_stands a k cap sound l capped_at capped same cap_is = record {
  convex = capped_entrant a k cap sound l capped_at;
  goods = ap (λ (b : Book). b.goods) same ∙ (list_at_ok a k sound l).goods;
  utility =
      ap (λ (b : Book). capped_utility (unsigned_abs (cap_of capped)) b.bids) same
      ∙ ap (λ (c : ℤ). capped_utility (unsigned_abs c) (list_at a.bidders k).bids) cap_is
      ∙ sym (ap (λ (c : Option ℤ). entrant_utility (under (list_at a.bidders k) c)) capped_at);
}
