-- What holds of each bidder of an auction and of each share of an answer of its shape.
use Rattle.std.proofs.Common.{◌≡◌, ℕ, suc, ◌<◌, ℤ, pos, ◌≤ℤ◌, List, [], ◌∷◌, length, get_or, sym, ap, ◌∙◌, subst, arith}
use Rattle.std.proofs.lemmas.Int.{ints}
use Rattle.std.proofs.lemmas.List.{get_or-map, length-map}
use Rattle.std.proofs.lemmas.List.Elements.{All-get_or}
use Rattle.mix_num.specs.Sellers.{AreAmounts}
use Rattle.mix_num.specs.Shares.{sum_at}
use Rattle.mix_num.specs.Orders.{IsOrder}
use Rattle.mix_num.specs.Vectors.{Vector}
use Rattle.mix_law.specs.Members.{KeepsLaws}
use Rattle.mix_cap.proofs.UnderCaps.{under_keeps_laws}
use Rattle.mix_law.specs.Clearings.{bidder_utility}
use Rattle.mix_clearing.specs.Utilities.{KeepLaws}
use Rattle.mix_text.specs.Auctions.{AuctionText, IsAuction}
use Rattle.mix_text.specs.Bidders.{list_at}
use Rattle.mix_text.specs.Caps.{cap_at}
use Rattle.mix_text.proofs.TieOrders.{is_order}
use Rattle.mix_answer.specs.Refusals.{AreConvex}
use Rattle.mix_answer.specs.Shapes.{HasAnswerShape, IsShare}
use Rattle.mix_answer.specs.Truths.{bundles_of}
use Rattle.mix_answer.specs.Utilities.{utilities_of}
use Rattle.mix_answer.specs.declared.outcome.Answer.{Answer}
use Rattle.mix_answer.specs.declared.share.Share.{Share}
use Rattle.mix_answer.proofs.Entrants.{length-utilities, utility-there}
use Rattle.mix_answer.proofs.TrueRefusals.{list_at_ok}
use Rattle.mix_check.specs.Reasons.{bundle_of, payment_of}

-- ---- orders
pub order-ordered : (a : AuctionText) → IsAuction a → IsOrder (length (utilities_of a)) a.order
order-ordered a sound = subst (λ (m : ℕ). IsOrder m a.order) (sym (length-utilities a)) (is_order (length a.bidders) a.order sound.order)

-- ---- bidders

-- utilities of convex bidders keep the laws of members
pub laws-at : (a : AuctionText) → IsAuction a → AreConvex a → (k : ℕ) → k < length a.bidders → KeepsLaws (length a.goods) (bidder_utility (utilities_of a) k)
laws-at a sound convex k l =
    let is = list_at_ok a k sound l in
    subst (λ (f : Vector → ℤ). KeepsLaws (length a.goods) f) (sym (utility-there a k l))
    (under_keeps_laws (length a.goods) (cap_at a.caps k) (list_at a.bidders k).bids is.bids is.few (λ c e. (sound.caps.range k c e, sound.caps.positive k c e)) (convex k l)).laws

pub laws : (a : AuctionText) → IsAuction a → AreConvex a → KeepLaws (length a.supply) (utilities_of a)
laws a sound convex k l =
    let few = length-utilities a in
    subst (λ (n : ℕ). KeepsLaws n (bidder_utility (utilities_of a) k)) (sym sound.supply.0) (laws-at a sound convex k (omega (arith, l, few)))

-- supplies are amounts
pub stocked : (a : AuctionText) → IsAuction a → (i : ℕ) → i < length a.supply → pos 0 ≤ℤ get_or a.supply i (pos 0)
stocked a sound i l = (sound.supply.1 i (pos 0) l).0

-- ---- shares
pub share-at : (a : AuctionText) (answer : Answer) → HasAnswerShape a answer → (k : ℕ) (d : Share) → k < length a.bidders → IsShare (length a.goods) (get_or answer.shares k d)
share-at a answer shape k d l = let e = shape.count in All-get_or (IsShare (length a.goods)) answer.shares k d (omega (arith, l, e)) shape.shares

pub length-bundles : (a : AuctionText) (answer : Answer) → HasAnswerShape a answer → length (bundles_of answer) ≡ length a.bidders
length-bundles a answer shape = length-map answer.shares (λ (share : Share). share.bundle.items) ∙ shape.count

pub bundle-at : (a : AuctionText) (answer : Answer) → HasAnswerShape a answer → (k : ℕ) (d : Share) → k < length a.bidders → bundle_of answer k ≡ (get_or answer.shares k d).bundle.items
bundle-at a answer shape k d l = let e = shape.count in get_or-map (λ (share : Share). share.bundle.items) answer.shares k d [] (omega (arith, l, e))

pub payment-at : (a : AuctionText) (answer : Answer) → HasAnswerShape a answer → (k : ℕ) (d : Share) → k < length a.bidders → payment_of answer k ≡ (get_or answer.shares k d).payment
payment-at a answer shape k d l = let e = shape.count in get_or-map (λ (share : Share). share.payment) answer.shares k d (pos 0) (omega (arith, l, e))

-- each bundle has an amount of each good
pub bundle-amounts : (a : AuctionText) (answer : Answer) → HasAnswerShape a answer → (k : ℕ) → k < length a.bidders → AreAmounts (length a.goods) (bundle_of answer k)
bundle-amounts a answer shape k l =
    let d : Share = record { bundle = record { items = [] }; payment = pos 0 } in
    subst (AreAmounts (length a.goods)) (sym (bundle-at a answer shape k d l)) (share-at a answer shape k d l).bundle

-- the share that is read has the bidder's bundle
pub bundle-read : (a : AuctionText) (answer : Answer) → HasAnswerShape a answer → (k : ℕ) (share : Share) → k < length a.bidders → share ≡ get_or answer.shares k share → share.bundle.items ≡ bundle_of answer k
bundle-read a answer shape k share l read = ap (λ (s : Share). s.bundle.items) read ∙ sym (bundle-at a answer shape k share l)

-- together they have nothing less than nothing
given-some : (bundles : List (List ℤ)) (i : ℕ) → ((k : ℕ) → k < length bundles → pos 0 ≤ℤ get_or (get_or bundles k []) i (pos 0)) → pos 0 ≤ℤ sum_at bundles i
given-some [] i h = omega (arith, ints)
given-some (x ∷ xs) i h = let first = h 0 (omega arith) in let rest = given-some xs i (λ k l. h (suc k) (omega arith)) in omega (arith, ints)

pub given_some : (a : AuctionText) (answer : Answer) → HasAnswerShape a answer → (i : ℕ) → i < length a.goods → pos 0 ≤ℤ sum_at (bundles_of answer) i
given_some a answer shape i l =
    let count = length-bundles a answer shape in
    given-some (bundles_of answer) i (λ k h. let m = bundle-amounts a answer shape k (omega (arith, h, count)) in (m.1 i (pos 0) (omega (arith, l, m.0))).0)
