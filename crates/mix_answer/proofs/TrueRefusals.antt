-- A true refusal of an auction has the shape of the auction.
use Rattle.std.proofs.Common.{◌<◌, ◌*◌, ◌+ℤ◌, ◌≤ℤ◌, ℕ, ℤ, suc, pos, neg_ℤ, Bool, true, false, cond, List, [], ◌∷◌, length, arith, subst}
use Rattle.std.proofs.lemmas.Int.{ints}
use Rattle.std.proofs.lemmas.List.Elements.{All-get_or, All-head, All-tail}
use Rattle.mix_num.specs.Ranges.{AreWithin}
use Rattle.mix_num.specs.Vectors.{with_null}
use Rattle.mix_bids.specs.Bids.{AreBids, Book, IsBid, weight_where}
use Rattle.mix_bids.specs.Offers.{best, pair, same_set}
use Rattle.mix_bids.specs.declared.bid.Bid.{Bid}
use Rattle.mix_text.specs.Auctions.{AuctionText, IsAuction, IsBook}
use Rattle.mix_text.specs.Bidders.{list_at}
use Rattle.mix_answer.specs.Shapes.{FitsAuction}
use Rattle.mix_answer.specs.declared.refusal.Refusal.{Refusal}
use Rattle.mix_answer.specs.Refusals.{IsTrueRefusal}

-- the list of the bidder at a place is over the goods of the auction
pub list_at_ok : (a : AuctionText) (k : ℕ) → IsAuction a → k < length a.bidders → IsBook (length a.goods) (list_at a.bidders k)
list_at_ok a k sound h = All-get_or (λ (bidder : List ℕ × Book). IsBook (length a.goods) bidder.1) a.bidders k nobody h sound.books
  where
    nobody : List ℕ × Book
    nobody = ([], record { goods = 0; bids = [] })

-- the weights of some of the bids sum up to -10,000 a bid at the least
weight_least : (n : ℕ) (p : Bid → Bool) (bs : List Bid) → AreBids n bs → neg_ℤ (pos (10000 * length bs)) ≤ℤ weight_where p bs
weight_least n p [] are = omega (arith, ints)
weight_least n p (b ∷ bs) are =
    let rest = weight_least n p bs (All-tail (IsBid n) b bs are) in
    one (p b) b.weight (weight_where p bs) (length bs) (All-head (IsBid n) b bs are).weight.0 rest
  where
    one : (counts : Bool) (weight others : ℤ) (k : ℕ) → neg_ℤ (pos 10000) ≤ℤ weight → neg_ℤ (pos (10000 * k)) ≤ℤ others → neg_ℤ (pos (10000 * suc k)) ≤ℤ (cond counts weight (pos 0) +ℤ others)
    one true weight others k l h = omega (arith, ints)
    one false weight others k l h = omega (arith, ints)

-- its choices are choices of the auction's goods, and its weight is at least -10,000 for each bid
pub fits : (a : AuctionText) (r : Refusal) → IsAuction a → IsTrueRefusal a r → FitsAuction a r
fits a r sound refused =
    let book = list_at_ok a r.bidder sound refused.bidder in
    let list = list_at a.bidders r.bidder in
    let facet = refused.facet in
    let counts : Bid → Bool = λ b. same_set (suc list.goods) (best b.values.items (with_null r.prices.items)) (pair r.first r.second) in
    let least = weight_least (length a.goods) counts list.bids book.bids in
    let few = book.few in
    let weight = facet.weight in
    let goods = book.goods in
    let within = facet.within in
    let negative = facet.negative in
    record {
      bidder = refused.bidder;
      order = facet.order;
      choices = omega (arith, goods, within);
      prices = subst (λ (n : ℕ). AreWithin 2000000 n r.prices.items) goods facet.prices;
      least = omega (arith, ints, few, weight, least);
      negative = omega (arith, ints, negative);
    }
