use Rattle.std.proofs.Common.{◌≡◌, ℕ, ◌+◌, ◌<◌, List, [], ◌∷◌, ◌++◌, length, get_or, ℤ, pos, ◌-ℤ◌, arith, ap, sym, ◌∙◌, subst, below_more, to_z, of_z, w64}
use Rattle.std.proofs.Math.ListN.{get_or-append}
use Rattle.std.proofs.Math.Seq.{get_or-append_seam}
use Rattle.std.proofs.lemmas.Int.{ints, clamps}
use Rattle.std.specs.Int.{int_max}
use Rattle.mix_descent.proofs.near.below.Goals as goal

-- one more number, of which a function of the place tells the value
one_more : (f : ℕ → ℤ) (old new : List ℤ) (y : ℤ) (i : ℕ) → new ≡ old ++ y ∷ [] → length old ≡ i → y ≡ f i → ((k : ℕ) → k < i → get_or old k (pos 0) ≡ f k) → (k : ℕ) → k < i + 1 → get_or new k (pos 0) ≡ f k
one_more f old new y i e n v before =
    let last : get_or new i (pos 0) ≡ y = ap (λ (z : List ℤ). get_or z i (pos 0)) e ∙ ap (λ (z : ℕ). get_or (old ++ y ∷ []) z (pos 0)) (sym n) ∙ get_or-append_seam old y [] (pos 0) in
    below_more (λ k. get_or new k (pos 0) ≡ f k) i
    (λ k h. ap (λ (z : List ℤ). get_or z k (pos 0)) e ∙ get_or-append old (y ∷ []) (pos 0) k (omega arith) ∙ before k h)
    (last ∙ v)

pub loop-place-preserved : goal.loop-place-preserved
loop-place-preserved c =
    let guess = c.args.guess.now.items in
    let reserve = c.args.reserve.now.items in
    let margin = to_z w64 (of_z w64 c.args.margin) in
    let place = c.loop-place.place in
    let same : c.deref-price-items.result.now ≡ guess = c.deref-price-items.ensures.0 in
    let inside : place < length guess = subst (λ (z : List ℤ). place < length z) same c.loop-place-test.true in
    let lies = c.requires.guess.1 place (pos 0) inside in
    let floor = c.requires.reserve.1 place (pos 0) (omega (arith, inside, c.requires.reserve.0)) in
    let read : get_or c.deref-price-items.result.now place (pos 0) ≡ get_or guess place (pos 0) = ap (λ (z : List ℤ). get_or z place (pos 0)) same in
    let held : get_or c.deref.result.now place (pos 0) ≡ get_or reserve place (pos 0) = ap (λ (z : List ℤ). get_or z place (pos 0)) c.deref.ensures.0 in
    let greater = c.max.ensures.value in
    record {
      size = omega (arith, c.push.ensures.len);
      value = one_more (λ k. int_max (get_or guess k (pos 0) -ℤ margin) (get_or reserve k (pos 0))) _ _ _ _ c.push.ensures.items c.loop-place.invariant.size (omega (arith, ints, clamps)) c.loop-place.invariant.value;
    }
