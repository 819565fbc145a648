use Rattle.std.proofs.Common.{◌≡◌, ◌∙◌, ℕ, ◌≤◌, ◌<◌, ◌+◌, ◌⊎◌, suc, pos, true, List, ℤ, ◌+ℤ◌, ◌≤ℤ◌, to_z, of_z, w64, arith, ap, sym, subst, eq-or-lt_of_le, ⊎_elim, slice_index_or}
use Rattle.std.proofs.lemmas.Int.{ints}
use Rattle.mix_num.specs.Vectors.{members, with_null}
use Rattle.mix_range.proofs.range.steps_below.Goals as goal

pub loop-place-preserved : goal.loop-place-preserved
loop-place-preserved c =
    let prices = c.args.prices.now.items in
    let ceiling = c.args.ceiling.now.items in
    let j = c.loop-place.place in
    let next : j + 1 ≡ suc j = omega arith in
    let before = c.loop-place.invariant in
    let after = c.fewer-most.ensures in
    let most = to_z w64 (of_z w64 c.fewer-most.result) in
    let same : most ≡ c.fewer-most.result = omega (arith, ints) in
    let price = ap (λ (items : List ℤ). slice_index_or items j (pos 0)) c.deref-price-items.ensures.0 in
    let top = ap (λ (items : List ℤ). slice_index_or items j (pos 0)) c.deref.ensures.0 in
    let own : members c.args.set (j + 1) ≡ members c.args.set (suc j) = ap (λ (v : ℕ). members c.args.set v) next in
    let last : members c.args.set (suc j) ≡ true → (with_null prices (suc j) +ℤ most) ≤ℤ with_null ceiling (suc j) = λ e. let u = after.below (c.has.ensures ∙ own ∙ e) in omega (arith, ints) in
    let at : (k : ℕ) → (k ≡ j) ⊎ (k < j) → members c.args.set (suc k) ≡ true → (with_null prices (suc k) +ℤ most) ≤ℤ with_null ceiling (suc k) =
    λ k way e. ⊎_elim
    (λ (q : k ≡ j). subst (λ (v : ℕ). members c.args.set (suc v) ≡ true → (with_null prices (suc v) +ℤ most) ≤ℤ with_null ceiling (suc v)) (sym q) last e)
    (λ (q : k < j). let u = before.below k q e in omega (arith, ints)) way in
    record {
      some = (omega (arith, ints), omega (arith, ints));
      below = λ k h e. at k (eq-or-lt_of_le (let q : k ≤ j = omega arith in q)) e;
    }
