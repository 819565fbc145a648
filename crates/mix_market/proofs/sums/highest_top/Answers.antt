use Rattle.std.proofs.Common.{arith, to_z, of_z, w64}
use Rattle.std.proofs.lemmas.Int.{ints, clamps}
use Rattle.mix_market.proofs.MemberExtremes.{greatest_least, greatest_next, greatest_end}
use Rattle.mix_market.proofs.sums.highest_top.Goals as goal

pub loop-buyer-init : goal.loop-buyer-init
loop-buyer-init g c =
    let low = greatest_least (λ buyer. g.D.Convex.top buyer c.args.good) c.args.buyers.now in
    record { so_far = omega (arith, ints, clamps); range = (omega (arith, ints), omega (arith, ints)) }

pub loop-buyer-preserved : goal.loop-buyer-preserved
loop-buyer-preserved g c =
    let highest = to_z w64 c.loop-buyer.highest-bits in
    let own = to_z w64 (of_z w64 c.top.result) in
    let range = c.top.ensures.range in
    record {
      so_far = greatest_next (λ buyer. g.D.Convex.top buyer c.args.good) c.args.buyers.now c.loop-buyer.buyer-index c.buyer-item.result highest own (to_z w64 (of_z w64 c.max-highest.result)) _ c.loop-buyer-test.true c.buyer-item.is
          (omega (arith, ints, c.top.ensures.value, range.0, range.1)) (omega (arith, ints, c.max-highest.ensures.value)) c.loop-buyer.invariant.so_far;
      range = (omega (arith, ints, clamps), omega (arith, ints, clamps));
    }

pub returns-clause-value : goal.returns-clause-value
returns-clause-value g c = greatest_end (λ buyer. g.D.Convex.top buyer c.args.good) c.args.buyers.now c.loop-buyer.buyer-index _ _ (omega arith) c.loop-buyer.invariant.range.0 c.loop-buyer.invariant.so_far
