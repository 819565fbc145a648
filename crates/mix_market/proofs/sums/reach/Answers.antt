use Rattle.std.proofs.Common.{◌≡◌, get_or, pos, ◌-ℤ◌, ◌*ℤ◌, ◌≤ℤ◌, arith, to_z, of_z, w64}
use Rattle.std.proofs.lemmas.Int.{ints, clamps}
use Rattle.mix_num.specs.Vectors.{members, ray, with_null}
use Rattle.mix_law.specs.Members.{fall_of}
use Rattle.mix_market.proofs.MemberSums.{one_more}
use Rattle.mix_market.proofs.MemberExtremes.{least_most, least_next, least_end}
use Rattle.mix_market.proofs.MarketLaws.{sum_linear}
use Rattle.mix_market.proofs.sums.reach.Goals as goal

pub loop-buyer-init : goal.loop-buyer-init
loop-buyer-init g c =
    let f = g.D.Convex.function in
    let x = with_null c.args.prices.now.items in
    let s = members c.args.set in
    let high = least_most (λ buyer. g.D.Convex.reach buyer x s) c.args.buyers.now in
    record {
      so_far = omega (arith, ints, clamps);
      low = omega (arith, ints);
      high = omega (arith, ints);
      linear = λ m h k l d. absurd {A = f (get_or c.args.buyers.now k d) (ray x m s) ≡ f (get_or c.args.buyers.now k d) x -ℤ (pos m *ℤ fall_of (f (get_or c.args.buyers.now k d)) x s)} (omega arith);
    }

pub loop-buyer-preserved : goal.loop-buyer-preserved
loop-buyer-preserved g c =
    let f = g.D.Convex.function in
    let x = with_null c.args.prices.now.items in
    let s = members c.args.set in
    let least = to_z w64 c.loop-buyer.least-bits in
    let own = to_z w64 (of_z w64 c.reach.result) in
    let range = c.reach.ensures.range in
    record {
      so_far = least_next (λ buyer. g.D.Convex.reach buyer x s) c.args.buyers.now c.loop-buyer.buyer-index c.buyer-item.result least own (to_z w64 (of_z w64 c.min-least.result)) _ c.loop-buyer-test.true c.buyer-item.is
          (omega (arith, ints, c.reach.ensures.value, range.0, range.1)) (omega (arith, ints, c.min-least.ensures.value)) c.loop-buyer.invariant.so_far;
      low = omega (arith, ints, clamps);
      high = omega (arith, ints, clamps);
      linear = λ m h.
          let before : pos m ≤ℤ least = omega (arith, ints, clamps) in
          let here : pos m ≤ℤ c.reach.result = omega (arith, ints, clamps) in
          one_more (λ member. f member (ray x m s) ≡ f member x -ℤ (pos m *ℤ fall_of (f member) x s)) _ _ _ c.loop-buyer-test.true c.buyer-item.is (c.loop-buyer.invariant.linear m before) (c.reach.ensures.linear m here);
    }

pub returns-clause-value : goal.returns-clause-value
returns-clause-value g c = least_end (λ buyer. g.D.Convex.reach buyer (with_null c.args.prices.now.items) (members c.args.set)) c.args.buyers.now c.loop-buyer.buyer-index _ _ (omega arith) c.loop-buyer.invariant.high c.loop-buyer.invariant.so_far

pub returns-clause-linear : goal.returns-clause-linear
returns-clause-linear g c = λ m h. sum_linear g.D.Convex.function c.args.buyers.now (with_null c.args.prices.now.items) (members c.args.set) m (λ k d l. c.loop-buyer.invariant.linear m h k (omega arith) d)
