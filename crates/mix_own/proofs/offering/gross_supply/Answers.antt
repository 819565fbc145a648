use Rattle.std.proofs.Common.{◌≡◌, ◌<◌, ◌∙◌, ◌++◌, ◌∷◌, [], ℤ, pos, ◌+ℤ◌, List, length, get_or, ap, ap₂, arith, of_z, subst, sym, to_z, w64}
use Rattle.std.proofs.lemmas.Int.{ints}
use Rattle.mix_num.specs.Sellers.{AreAmounts, IsAmount}
use Rattle.mix_text.specs.AuctionTexts.{auction_text}
use Rattle.mix_own.proofs.GrossSupplies.{good_gross, gross_all, gross_amounts, gross_more, gross_none}
use Rattle.mix_own.proofs.offering.gross_supply.Goals as goal

pub loop-i-init : goal.loop-i-init
loop-i-init c = record { value = c.new-supply.ensures ∙ sym (gross_none c.args.auction.now.supply.items c.args.owned.now); count = ap length c.new-supply.ensures }

-- amounts add up to the sum of their numbers
sum : (a b x y : ℤ) → a ≡ x → b ≡ y → IsAmount x → IsAmount y → to_z w64 (of_z w64 (to_z w64 (of_z w64 a) +ℤ to_z w64 (of_z w64 b))) ≡ x +ℤ y
sum a b x y e f first second = omega (arith, ints, e, f, first, second)

pub loop-i-preserved : goal.loop-i-preserved
loop-i-preserved c =
    let i = c.loop-i.i in
    let a = auction_text c.args.auction.now in
    let owned = c.args.owned.now in
    let sound = c.args.auction.now.sound in
    let same = c.deref-amount-items.ensures.0 in
    let inside : i < length a.supply = rw same at c.loop-i-test.true in
    let here = good_gross a owned i sound c.requires (omega (arith, inside, sound.supply.0)) in
    let e = ap (λ (z : List ℤ). get_or z i (pos 0)) same in
    record {
      value =
          c.push.ensures.items
          ∙ ap₂ (λ (xs : List ℤ) (x : ℤ). xs ++ x ∷ []) c.loop-i.invariant.value (sum _ _ _ _ e c.together.ensures.value here.0 here.1)
          ∙ sym (gross_more i a.supply owned);
      count = omega (arith, c.push.ensures.len, c.loop-i.invariant.count);
    }

pub returns-clause-value : goal.returns-clause-value
returns-clause-value c =
    let same = ap (λ (z : List ℤ). length z) c.deref-amount-items.ensures.0 in
    c.loop-i.invariant.value ∙ gross_all c.loop-i.i c.args.auction.now.supply.items c.args.owned.now (omega (arith, same, c.loop-i.auto.i-end, c.loop-i-test.false))

pub returns-clause-range : goal.returns-clause-range
returns-clause-range c =
    let a = auction_text c.args.auction.now in
    let owned = c.args.owned.now in
    let same = ap (λ (z : List ℤ). length z) c.deref-amount-items.ensures.0 in
    let value = c.loop-i.invariant.value ∙ gross_all c.loop-i.i a.supply owned (omega (arith, same, c.loop-i.auto.i-end, c.loop-i-test.false)) in
    subst (AreAmounts (length a.goods)) (sym value) (gross_amounts a owned c.args.auction.now.sound c.requires)
