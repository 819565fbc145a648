use Rattle.std.proofs.Common.{◌≡◌, ℕ, ◌<◌, List, length, get_or, ℤ, pos, ◌*ℤ◌, arith, ap, ap₂, sym, ◌∙◌, w64, to_z, of_z}
use Rattle.std.proofs.lemmas.Int.{ints}
use Rattle.mix_num.proofs.Additions.{dot_of_first-none, dot_of_first-more, dot_of_first-all}
use Rattle.mix_num.proofs.sums.dot.Goals as goal

pub loop-k-init : goal.loop-k-init
loop-k-init c = record { value = sym (dot_of_first-none c.args.prices.now.items c.args.bundle.now.items); range = (omega (arith, ints), omega (arith, ints)) }

pub loop-k-preserved : goal.loop-k-preserved
loop-k-preserved c =
    let k : ℕ = c.loop-k.k in
    let same = c.deref-price-items.ensures.0 in
    let other = c.deref.ensures.0 in
    let lt : c.loop-k.k < length c.args.prices.now.items = rw same at c.loop-k-test.true in
    let size = c.requires.size in
    let lu : c.loop-k.k < length c.args.bundle.now.items = omega (arith, lt, size) in
    let p = c.requires.prices c.loop-k.k (pos 0) lt in
    let x = c.requires.bundle c.loop-k.k (pos 0) lu in
    let e = ap (λ (y : List ℤ). get_or y c.loop-k.k (pos 0)) same in
    let f = ap (λ (y : List ℤ). get_or y c.loop-k.k (pos 0)) other in
    let price : to_z w64 (of_z w64 (get_or c.deref-price-items.result.now c.loop-k.k (pos 0))) ≡ get_or c.args.prices.now.items c.loop-k.k (pos 0) = omega (arith, ints, e, p) in
    let amount : to_z w64 (of_z w64 (get_or c.deref.result.now c.loop-k.k (pos 0))) ≡ get_or c.args.bundle.now.items c.loop-k.k (pos 0) = omega (arith, ints, f, x) in
    let product = c.cost-sum.ensures.value ∙ ap₂ (λ (a b : ℤ). a *ℤ b) price amount in
    let more = dot_of_first-more c.loop-k.k c.args.prices.now.items c.args.bundle.now.items in
    let room = c.deref-price-items.ensures.1 in
    record {
      value = omega (arith, ints, product, more, c.loop-k.invariant.value, c.loop-k.invariant.range, c.cost-sum.ensures.range);
      range = omega (arith, ints, c.loop-k.invariant.range, c.cost-sum.ensures.range);
    }

pub returns-clause-value : goal.returns-clause-value
returns-clause-value c =
    let same = ap (λ (y : List ℤ). length y) c.deref-price-items.ensures.0 in
    let end = c.loop-k.auto.k-end in
    let out = c.loop-k-test.false in
    c.loop-k.invariant.value ∙ dot_of_first-all c.loop-k.k c.args.prices.now.items c.args.bundle.now.items (omega (arith, same, end, out))
