use Rattle.std.proofs.Common.{arith, refl, ◌≡◌, ◌-◌, ap, sym, ◌∙◌, get_or, length, pos, to_z, of_z, w64, None}
use Rattle.std.proofs.lemmas.Int.{ints}
use Rattle.std.proofs.lemmas.List.Elements.{All-get_or, All-same}
use Rattle.mix_bids.specs.Offers.{better, offer, IsOffer}
use Rattle.mix_bids.proofs.Loops.{bid_at, offer_of, top_small, top_start, top_step}
use Rattle.mix_bids.proofs.list.BidList.top.Goals as goal

pub loop-bid-init : goal.loop-bid-init
loop-bid-init c = record {
  so_far = top_start c.bids-bid-items.result.now c.args.good;
  range = (omega (arith, ints), omega (arith, ints));
}

pub better-greatest-requires-clause-offer : goal.better-greatest-requires-clause-offer
better-greatest-requires-clause-offer c =
    let b = bid_at _ _ _ _ _ refl c.loop-bid-test.true c.bid-item.is c.bids-bid-items.ensures.proper in
    let l = b.offers.size in
    let r = c.requires in
    let e = c.deref.ensures.0 in
    All-get_or IsOffer _ (c.args.good - 1) None (omega (arith, ap length e)) (All-same IsOffer _ _ e b.offers.each)

pub loop-bid-preserved : goal.loop-bid-preserved
loop-bid-preserved c =
    let b = bid_at _ _ _ _ _ refl c.loop-bid-test.true c.bid-item.is c.bids-bid-items.ensures.proper in
    let l = b.offers.size in
    let r = c.requires in
    let d = c.deref.ensures.0 in
    let o = get_or c.deref.result.now (c.args.good - 1) None in
    let g = to_z w64 c.loop-bid.greatest-bits in
    let e = c.better-greatest.ensures.value in
    let i = c.loop-bid.invariant.range in
    let f : to_z w64 (of_z w64 c.better-greatest.result) ≡ c.better-greatest.result = omega (arith, ints) in
    let p : o ≡ offer c.bid-item.result.values.items c.args.good = ap (λ z. get_or z (c.args.good - 1) None) d ∙ sym (offer_of c.bid-item.result.values.items c.args.good (omega arith)) in
    let h : IsOffer o = All-get_or IsOffer _ (c.args.good - 1) None (omega (arith, ap length d)) (All-same IsOffer _ _ d b.offers.each) in
    let s = top_small o g h i in
    record {
      so_far = top_step _ c.args.good _ _ g _ _ c.loop-bid-test.true c.bid-item.is (f ∙ e ∙ ap (λ z. better z (pos 0) g) p) c.loop-bid.invariant.so_far;
      range = (omega (arith, ints), omega (arith, ints));
    }
