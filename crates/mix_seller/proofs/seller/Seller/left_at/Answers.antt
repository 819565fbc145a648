use Rattle.std.proofs.Common.{arith, ap, pos, suc, length, slice_index_or, to_z, of_z, w64}
use Rattle.std.proofs.lemmas.Int.{ints}
use Rattle.mix_law.proofs.Ranges.{good_price}
use Rattle.mix_seller.specs.Laws.{amount_of}
use Rattle.mix_seller.proofs.Steps.{left_step}
use Rattle.mix_seller.proofs.seller.Seller.left_at.Goals as goal

pub returns-clause-value : goal.returns-clause-value
returns-clause-value c =
    let supply = c.args.self.now.supply.items in
    let reserve = c.args.self.now.reserve.items in
    let prices = c.args.prices.now.items in
    let k = c.args.k in
    let sale = c.args.self.now.for_sale in
    let t = amount_of (length supply) supply sale.supplies (suc k) (omega arith) (omega arith) in
    let r = amount_of (length supply) reserve sale.reserves (suc k) (omega arith) (omega arith) in
    let p = good_price (length supply) prices c.requires.prices (suc k) (omega arith) (omega arith) in
    let step = left_step supply reserve prices k
    (to_z w64 (of_z w64 (slice_index_or c.deref.result.now k (pos 0))))
    (to_z w64 (of_z w64 (slice_index_or c.deref-2.result.now k (pos 0))))
    (to_z w64 (of_z w64 (slice_index_or c.deref-3.result.now k (pos 0))))
    (omega (arith, ints, t.0, t.1, ap (λ z. slice_index_or z k (pos 0)) c.deref.ensures.0))
    (omega (arith, ints, r.0, r.1, ap (λ z. slice_index_or z k (pos 0)) c.deref-2.ensures.0))
    (omega (arith, ints, p.0, p.1, ap (λ z. slice_index_or z k (pos 0)) c.deref-3.ensures.0))
    (to_z w64 (of_z w64 c.left.result)) (omega (arith, ints)) in
    omega (arith, ints)
