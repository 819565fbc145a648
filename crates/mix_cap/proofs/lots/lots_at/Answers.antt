use Rattle.std.proofs.Common.{◌≡◌, ◌∙◌, ℤ, ◌≤ℤ◌, pos, List, ap, ap₂, arith, refl, subst, sym, take, length, to_z, of_z, w64, All}
use Rattle.std.proofs.lemmas.Int.{ints}
use Rattle.std.proofs.lemmas.List.{length-map, length-take-le}
use Rattle.std.proofs.lemmas.List.Elements.{All-push}
use Rattle.mix_num.specs.Vectors.{with_null}
use Rattle.mix_bids.proofs.Loops.{bid_at}
use Rattle.mix_cap.specs.Lots.{IsLot, lot_of}
use Rattle.mix_cap.specs.declared.lots.Lot.{Lot}
use Rattle.mix_cap.proofs.LotSums.{is_lot, lots_more}
use Rattle.mix_cap.proofs.lots.lots_at.Goals as goal

-- so many lots as bids were looked at
pub push-requires : goal.push-requires
push-requires c =
    let l = ap (λ xs. length xs) c.loop-bid.invariant.lots ∙ length-map (take c.loop-bid.bid-index c.bids-bid-items.result.now) (lot_of (with_null c.args.prices.now.items)) in
    let t = length-take-le c.loop-bid.bid-index c.bids-bid-items.result.now (omega (arith, c.loop-bid-test.true)) in
    (omega arith, omega (arith, l, t, c.bids-bid-items.ensures.few, c.loop-bid-test.true))

pub loop-bid-preserved : goal.loop-bid-preserved
loop-bid-preserved c =
    let x = with_null c.args.prices.now.items in
    let bs = c.bids-bid-items.result.now in
    let k = c.loop-bid.bid-index in
    let b = c.bid-item.result in
    let is = bid_at c.args.list.now.goods bs bs k b refl c.loop-bid-test.true c.bid-item.is c.bids-bid-items.ensures.proper in
    let e = c.best_choices.ensures in
    let lot : Lot = record { gain = to_z w64 (of_z w64 c.best_choices.result.gain); units = to_z w64 (of_z w64 b.weight) } in
    let w = is.weight in
    let units : to_z w64 (of_z w64 b.weight) ≡ b.weight = omega (arith, ints, w) in
    let gain : to_z w64 (of_z w64 c.best_choices.result.gain) ≡ c.best_choices.result.gain = omega (arith, ints, e.range.0, e.range.1) in
    let same : lot ≡ lot_of x b = ap₂ (λ (g u : ℤ). record { gain = g; units = u }) (gain ∙ e.gain) units in
    let range = subst (λ (g : ℤ). (pos 0 ≤ℤ g) × (g ≤ℤ pos 5000000)) e.gain e.range in
    let one = is_lot x c.args.list.now.goods c.args.list.now.bids bs k b lot c.bids-bid-items.ensures.value c.loop-bid-test.true c.bid-item.is is c.requires.positive same range in
    record {
      lots = lots_more x bs k b c.loop-bid.lots.items c.push.new.self.items lot c.loop-bid-test.true c.bid-item.is c.loop-bid.invariant.lots c.push.ensures.items same;
      proper = subst (λ (lots : List Lot). All IsLot lots) (sym c.push.ensures.items) (All-push IsLot c.loop-bid.lots.items lot c.loop-bid.invariant.proper one);
    }
