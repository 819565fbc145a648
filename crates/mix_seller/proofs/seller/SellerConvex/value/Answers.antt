use Rattle.std.proofs.Common.{arith, ap, ◌≡◌, ◌*ℤ◌, suc, length}
use Rattle.std.proofs.lemmas.Int.{ints}
use Rattle.mix_num.specs.Sellers.{unit_gain}
use Rattle.mix_num.specs.Vectors.{sum_to, with_null}
use Rattle.mix_law.proofs.Ranges.{value_range}
use Rattle.mix_seller.specs.Laws.{seller_l_natural}
use Rattle.mix_seller.proofs.Steps.{next, reserve_lies}
use Rattle.mix_seller.proofs.seller.SellerConvex.value.Goals as goal

pub loop-k-preserved : goal.loop-k-preserved
loop-k-preserved c =
    let supply = c.args.self.now.supply.items in
    let reserve = c.args.self.now.reserve.items in
    let x = with_null c.args.prices.now.items in
    let n = next c.loop-k.k (λ j. with_null supply (suc j) *ℤ unit_gain reserve x (suc j)) in
    record { so_far = omega (arith, ints); low = omega (arith, ints); high = omega (arith, ints) }

pub returns-clause-range : goal.returns-clause-range
returns-clause-range c =
    let supply = c.args.self.now.supply.items in
    let reserve = c.args.self.now.reserve.items in
    let x = with_null c.args.prices.now.items in
    let sale = c.args.self.now.for_sale in
    let all : c.loop-k.k ≡ length supply = omega arith in
    let e = ap (λ z. sum_to z (λ j. with_null supply (suc j) *ℤ unit_gain reserve x (suc j))) all in
    let r = value_range sale.some (seller_l_natural supply reserve sale) (reserve_lies supply reserve sale) c.args.prices.now.items c.requires in
    (omega (arith, ints, r.0), omega (arith, ints, r.1))
