use Rattle.std.proofs.Common.{◌≡◌, ◌<◌, ◌∙◌, ◌++◌, ◌∷◌, [], ℤ, pos, ◌-ℤ◌, List, length, get_or, ap, ap₂, arith, of_z, refl, subst, sym, to_z, w64}
use Rattle.std.proofs.lemmas.Int.{ints}
use Rattle.mix_num.specs.Ranges.{AreWithin}
use Rattle.mix_num.specs.Sellers.{IsAmount}
use Rattle.mix_own.proofs.NetAmounts.{net_all, net_more, net_none, net_within}
use Rattle.mix_own.proofs.trading.net.Goals as goal

pub loop-i-init : goal.loop-i-init
loop-i-init c = record { value = c.new-net.ensures ∙ sym (net_none c.args.bundle.now.items c.args.owned.now.items); count = ap length c.new-net.ensures }

-- amounts differ by what their numbers do
difference : (a b x y : ℤ) → a ≡ x → b ≡ y → IsAmount x → IsAmount y → to_z w64 (of_z w64 (to_z w64 (of_z w64 a) -ℤ to_z w64 (of_z w64 b))) ≡ x -ℤ y
difference a b x y e f have own = omega (arith, ints, e, f, have, own)

pub loop-i-preserved : goal.loop-i-preserved
loop-i-preserved c =
    let i = c.loop-i.i in
    let bundle = c.args.bundle.now.items in
    let owned = c.args.owned.now.items in
    let same = c.deref-amount-items.ensures.0 in
    let other = c.deref.ensures.0 in
    let inside : i < length bundle = rw same at c.loop-i-test.true in
    let have = c.requires.bundle i (pos 0) inside in
    let own = c.requires.owned.1 i (pos 0) (omega (arith, inside, c.requires.owned.0)) in
    let e = ap (λ (z : List ℤ). get_or z i (pos 0)) same in
    let f = ap (λ (z : List ℤ). get_or z i (pos 0)) other in
    record {
      value =
          c.push.ensures.items
          ∙ ap₂ (λ (xs : List ℤ) (x : ℤ). xs ++ x ∷ []) c.loop-i.invariant.value (difference _ _ _ _ e f have own)
          ∙ sym (net_more i bundle owned);
      count = omega (arith, c.push.ensures.len, c.loop-i.invariant.count);
    }

pub returns-clause-value : goal.returns-clause-value
returns-clause-value c =
    let same = ap (λ (z : List ℤ). length z) c.deref-amount-items.ensures.0 in
    c.loop-i.invariant.value ∙ net_all c.loop-i.i c.args.bundle.now.items c.args.owned.now.items (omega (arith, same, c.loop-i.auto.i-end, c.loop-i-test.false))

pub returns-clause-range : goal.returns-clause-range
returns-clause-range c =
    let bundle = c.args.bundle.now.items in
    let owned = c.args.owned.now.items in
    let same = ap (λ (z : List ℤ). length z) c.deref-amount-items.ensures.0 in
    let value = c.loop-i.invariant.value ∙ net_all c.loop-i.i bundle owned (omega (arith, same, c.loop-i.auto.i-end, c.loop-i-test.false)) in
    subst (AreWithin 1000000 (length bundle)) (sym value) (net_within (length bundle) bundle owned (refl, c.requires.bundle) c.requires.owned)
