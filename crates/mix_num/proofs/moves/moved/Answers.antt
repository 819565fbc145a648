use Rattle.std.proofs.Common.{◌≡◌, ℕ, suc, ◌+◌, ◌<◌, List, [], ◌∷◌, ◌++◌, length, get_or, cond, ℤ, pos, ◌+ℤ◌, arith, ap, sym, ◌∙◌, subst, below_more, add-one, Bool, ap₂, to_z, of_z, w64}
use Rattle.std.proofs.Math.ListN.{get_or-append}
use Rattle.std.proofs.Math.Seq.{get_or-append_seam}
use Rattle.std.proofs.lemmas.Int.{ints}
use Rattle.mix_num.specs.Vectors.{Choices, members}
use Rattle.mix_num.proofs.moves.moved.Goals as goal

-- one more price, moved by what the set says of its good
entries_more : (old new longer : List ℤ) (s : Choices) (by y : ℤ) (i : ℕ) → longer ≡ new ++ y ∷ [] → length new ≡ i → y ≡ get_or old i (pos 0) +ℤ cond (s (suc i)) by (pos 0) → ((k : ℕ) → k < i → get_or new k (pos 0) ≡ get_or old k (pos 0) +ℤ cond (s (suc k)) by (pos 0)) → (k : ℕ) → k < i + 1 → get_or longer k (pos 0) ≡ get_or old k (pos 0) +ℤ cond (s (suc k)) by (pos 0)
entries_more old new longer s by y i e n v below =
    let at_end : get_or longer i (pos 0) ≡ y = ap (λ (z : List ℤ). get_or z i (pos 0)) e ∙ ap (λ (z : ℕ). get_or (new ++ y ∷ []) z (pos 0)) (sym n) ∙ get_or-append_seam new y [] (pos 0) in
    below_more (λ k. get_or longer k (pos 0) ≡ get_or old k (pos 0) +ℤ cond (s (suc k)) by (pos 0)) i
    (λ k h. ap (λ (z : List ℤ). get_or z k (pos 0)) e ∙ get_or-append new (y ∷ []) (pos 0) k (omega arith) ∙ below k h)
    (at_end ∙ v)

pub loop-place-preserved : goal.loop-place-preserved
loop-place-preserved c =
    let old = c.args.prices.now.items in
    let place = c.loop-place.place in
    let within : c.has.result ≡ members c.args.set (suc place) = c.has.ensures ∙ ap (members c.args.set) (add-one place) in
    let same : c.deref-price-items.result.now ≡ old = c.deref-price-items.ensures.0 in
    let inside : place < length old = subst (λ (z : List ℤ). place < length z) same c.loop-place-test.true in
    let lies = c.requires.before.1 place (pos 0) inside in
    let read : get_or c.deref-price-items.result.now place (pos 0) ≡ get_or old place (pos 0) = ap (λ (z : List ℤ). get_or z place (pos 0)) same in
    let price : to_z w64 (of_z w64 (get_or c.deref-price-items.result.now place (pos 0))) ≡ get_or old place (pos 0) = omega (arith, ints) in
    let step : to_z w64 (of_z w64 c.step.result) ≡ c.step.result = omega (arith, ints) in
    let by = to_z w64 (of_z w64 c.args.by) in
    let moved = ap₂ (λ (u : ℤ) (b : Bool). u +ℤ cond b by (pos 0)) price within in
    record {
      goods = omega (arith, c.push.ensures.len);
      prices = entries_more old _ _ (members c.args.set) by _ _ c.push.ensures.items c.loop-place.invariant.goods (step ∙ c.step.ensures ∙ moved) c.loop-place.invariant.prices;
    }
