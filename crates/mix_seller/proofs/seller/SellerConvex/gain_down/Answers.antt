use Rattle.std.proofs.Common.{arith, ap, ◌≡◌, ◌*ℤ◌, suc, length, to_z, w64}
use Rattle.std.proofs.lemmas.Int.{ints}
use Rattle.mix_num.specs.Sellers.{unit_gain}
use Rattle.mix_num.specs.Vectors.{members, minus, sum_to, with_null}
use Rattle.mix_law.proofs.Ranges.{rho_range}
use Rattle.mix_seller.specs.Laws.{seller_l_natural}
use Rattle.mix_seller.proofs.Steps.{next_difference}
use Rattle.mix_seller.proofs.seller.SellerConvex.gain_down.Goals as goal

pub loop-k-preserved : goal.loop-k-preserved
loop-k-preserved c =
    let supply = c.args.self.now.supply.items in
    let reserve = c.args.self.now.reserve.items in
    let x = with_null c.args.prices.now.items in
    let y = minus x (members c.args.set) in
    let n = next_difference c.loop-k.k (λ j. with_null supply (suc j)) (λ j. unit_gain reserve y (suc j)) (λ j. unit_gain reserve x (suc j)) (to_z w64 c.loop-k.sum-bits) c.gain_at-sum.result c.loop-k.invariant.so_far c.gain_at-sum.ensures.value in
    record { so_far = omega (arith, ints); low = omega (arith, ints); high = omega (arith, ints) }

pub returns-clause-value : goal.returns-clause-value
returns-clause-value c =
    let supply = c.args.self.now.supply.items in
    let reserve = c.args.self.now.reserve.items in
    let x = with_null c.args.prices.now.items in
    let y = minus x (members c.args.set) in
    let all : c.loop-k.k ≡ length supply = omega arith in
    let e = ap (λ z. sum_to z (λ j. with_null supply (suc j) *ℤ unit_gain reserve x (suc j))) all in
    let d = ap (λ z. sum_to z (λ j. with_null supply (suc j) *ℤ unit_gain reserve y (suc j))) all in
    omega (arith, ints)

pub returns-clause-range : goal.returns-clause-range
returns-clause-range c =
    let supply = c.args.self.now.supply.items in
    let reserve = c.args.self.now.reserve.items in
    let x = with_null c.args.prices.now.items in
    let sale = c.args.self.now.for_sale in
    let e = returns-clause-value c in
    let r = rho_range sale.some (seller_l_natural supply reserve sale) x (members c.args.set) in
    (omega (arith, ints, e, r.0), omega (arith, ints, e, r.1))
