use Rattle.std.proofs.Common.{length, ap, ℕ, ◌≡◌, ◌∙◌, suc, arith, refl, to_z, of_z, w64}
use Rattle.std.proofs.lemmas.Int.{ints, clamps}
use Rattle.mix_num.specs.Vectors.{Vector, members, with_null}
use Rattle.mix_seller.specs.Reaches.{good_reach, least_to}
use Rattle.mix_seller.proofs.LongFalls.{least_next, seller_falls}
use Rattle.mix_seller.proofs.seller.SellerConvex.reach.Goals as goal

pub loop-k-preserved : goal.loop-k-preserved
loop-k-preserved c =
    let spans : Vector = λ j. good_reach (members c.args.set (suc j)) (with_null c.args.self.now.supply.items (suc j)) (with_null c.args.self.now.reserve.items (suc j)) (with_null c.args.prices.now.items (suc j)) in
    let own : to_z w64 (of_z w64 c.span_at.result) ≡ c.span_at.result = omega (arith, ints, c.span_at.ensures.range.0, c.span_at.ensures.range.1) in
    record {
      so_far = least_next c.loop-k.k spans (to_z w64 c.loop-k.least-bits) (to_z w64 (of_z w64 c.span_at.result)) (to_z w64 (of_z w64 c.min-least.result)) c.loop-k.invariant.so_far (own ∙ c.span_at.ensures.value) (omega (arith, ints, c.min-least.ensures.value));
      low = omega (arith, ints, clamps);
      high = omega (arith, ints, clamps);
    }

pub returns-clause-value : goal.returns-clause-value
returns-clause-value c =
    let all : c.loop-k.k ≡ length c.args.self.now.supply.items = omega arith in
    c.loop-k.invariant.so_far ∙ ap (λ (m : ℕ). least_to m (λ j. good_reach (members c.args.set (suc j)) (with_null c.args.self.now.supply.items (suc j)) (with_null c.args.self.now.reserve.items (suc j)) (with_null c.args.prices.now.items (suc j)))) all

pub returns-clause-linear : goal.returns-clause-linear
returns-clause-linear c = λ m h.
    let e = returns-clause-value c in
    seller_falls c.args.self.now.supply.items c.args.self.now.reserve.items (with_null c.args.prices.now.items) (members c.args.set) m c.args.self.now.for_sale refl c.requires.goods (omega (arith, ints))
