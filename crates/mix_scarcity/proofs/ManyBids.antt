-- Changes that come one after the other, and bids that are added so.
use Rattle.std.proofs.Common.{List, [], ◌∷◌, refl, ◌∙◌, arith}
use Rattle.std.proofs.lemmas.Int.{ints}
use Rattle.mix_text.specs.Auctions.{AuctionText, IsAuction}
use Rattle.mix_text.specs.Changes.{with_added}
use Rattle.mix_text.specs.Reading.{NamedBid}
use Rattle.mix_text.proofs.ChangedAuctions.{added_auction}
use Rattle.mix_scarcity.specs.Changes.{AreAdded, IsScarcerAuction, with_all}
use Rattle.mix_scarcity.proofs.AddedBids.{added_scarcer}

pub scarcer-chains : (a b c : AuctionText) → IsScarcerAuction a b → IsScarcerAuction b c → IsScarcerAuction a c
scarcer-chains a b c p q =
    let e = p.goods in
    record {
      goods = q.goods ∙ p.goods;
      wanted = λ x y h. let u = p.wanted x y h in let v = q.wanted x y (λ k l. h k (omega (arith, l, e))) in omega (arith, ints);
      less = λ i h. let u = p.less i h in let v = q.less i (omega (arith, h, e)) in omega (arith, ints);
      higher = λ i h. let u = p.higher i h in let v = q.higher i (omega (arith, h, e)) in omega (arith, ints);
    }

-- bids added one after the other
pub all-scarcer : (a : AuctionText) (bids : List NamedBid) → IsAuction a → AreAdded a bids → IsScarcerAuction a (with_all a bids)
all-scarcer a [] sound are = record { goods = refl; wanted = λ x y h. omega (arith, ints); less = λ i h. omega (arith, ints); higher = λ i h. omega (arith, ints) }
all-scarcer a (b ∷ bids) sound are =
    let one = are.0 in
    let next = added_auction a b.name b.bid sound one.name one.bid (λ e. one.uncapped) one.within in
    scarcer-chains a (with_added a b.name b.bid) (with_all (with_added a b.name b.bid) bids) (added_scarcer a b.name b.bid sound one.bid one.weight one.uncapped)
    (all-scarcer (with_added a b.name b.bid) bids next are.1)
