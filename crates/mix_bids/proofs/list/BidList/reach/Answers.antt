use Rattle.std.proofs.Common.{◌≡◌, ◌∙◌, ℕ, List, suc, pos, cond, arith, ap, subst, of_z, to_z, w64}
use Rattle.std.proofs.lemmas.Int.{ints, clamps}
use Rattle.std.specs.Int.{int_min}
use Rattle.mix_num.specs.Vectors.{members, with_null}
use Rattle.mix_bids.specs.Offers.{best, within}
use Rattle.mix_bids.specs.Reaches.{gap, reach_of}
use Rattle.mix_bids.specs.declared.bid.Bid.{Bid}
use Rattle.mix_bids.proofs.Lengths.{over_of}
use Rattle.mix_bids.proofs.LongRaises.{reach_end, reach_start, reach_step, utility_linear}
use Rattle.mix_bids.proofs.list.BidList.reach.Goals as goal

pub loop-bid-init : goal.loop-bid-init
loop-bid-init c = record {
  so_far = reach_start c.args.self.now.goods (members c.args.set) c.bids-bid-items.result.now (with_null c.args.prices.now.items);
  range = (omega (arith, ints), omega (arith, ints));
}

pub loop-bid-preserved : goal.loop-bid-preserved
loop-bid-preserved c =
    let x = with_null c.args.prices.now.items in
    let s = members c.args.set in
    let vs = c.bid-item.result.values.items in
    let v = c.steps.result in
    let r = c.steps.ensures.range in
    let before = c.loop-bid.invariant.range in
    let is = subst (λ (n : ℕ). v ≡ cond (within (suc n) (best vs x) s) (gap s vs x) (pos 8000000)) c.requires.prices.0 c.steps.ensures.value in
    let own : to_z w64 (of_z w64 v) ≡ v = omega (arith, ints, r.0, r.1) in
    let least : to_z w64 (of_z w64 c.min-least.result) ≡ c.min-least.result = omega (arith, ints) in
    let lesser : to_z w64 (of_z w64 c.min-least.result) ≡ int_min (to_z w64 c.loop-bid.least-bits) v = least ∙ c.min-least.ensures.value ∙ ap (int_min (to_z w64 c.loop-bid.least-bits)) own in
    record {
      so_far = reach_step c.args.self.now.goods s c.bids-bid-items.result.now x c.loop-bid.bid-index c.bid-item.result _ v _ _ c.loop-bid-test.true c.bid-item.is is lesser c.loop-bid.invariant.so_far;
      range = (omega (arith, ints, clamps, r.0, r.1, before.0, before.1), omega (arith, ints, clamps, r.0, r.1, before.0, before.1));
    }

pub returns-clause-value : goal.returns-clause-value
returns-clause-value c =
    let x = with_null c.args.prices.now.items in
    let s = members c.args.set in
    reach_end c.args.self.now.goods s c.bids-bid-items.result.now x c.loop-bid.bid-index _ _ (omega arith) c.loop-bid.invariant.range.1 c.loop-bid.invariant.so_far
    ∙ ap (λ (bs : List Bid). reach_of c.args.self.now.goods s bs x) c.bids-bid-items.ensures.value

pub returns-clause-linear : goal.returns-clause-linear
returns-clause-linear c = λ m h.
    let n = c.args.self.now.goods in
    let v = c.bids-bid-items.ensures.value in
    let e = returns-clause-value c in
    utility_linear n c.args.self.now.bids (with_null c.args.prices.now.items) (members c.args.set) m (over_of n c.args.self.now.bids (rw v at c.bids-bid-items.ensures.proper)) c.requires.goods (omega (arith, ints))
