use Rattle.std.proofs.Common.{◌≡◌, ◌∙◌, ◌+◌, ◌<◌, ◌≤ℤ◌, ◌++◌, ◌∷◌, [], ℕ, ℤ, pos, List, All, length, get_or, arith, ap, sym, subst, below_more, to_z, of_z, w64}
use Rattle.std.proofs.Math.ListN.{get_or-append}
use Rattle.std.proofs.Math.Seq.{get_or-append_seam}
use Rattle.std.proofs.lemmas.Int.{ints, clamps}
use Rattle.std.proofs.lemmas.List.Elements.{All-push}
use Rattle.mix_num.specs.Ranges.{Lies}
use Rattle.mix_guess.proofs.guess.bounded.Goals as goal

-- one more number at or above its floor
floor_more : (floor old new : List ℤ) (y : ℤ) (i : ℕ) → new ≡ old ++ y ∷ [] → length old ≡ i → get_or floor i (pos 0) ≤ℤ y → ((k : ℕ) → k < i → get_or floor k (pos 0) ≤ℤ get_or old k (pos 0)) → (k : ℕ) → k < i + 1 → get_or floor k (pos 0) ≤ℤ get_or new k (pos 0)
floor_more floor old new y i e n v before =
    let last : get_or new i (pos 0) ≡ y = ap (λ (z : List ℤ). get_or z i (pos 0)) e ∙ ap (λ (z : ℕ). get_or (old ++ y ∷ []) z (pos 0)) (sym n) ∙ get_or-append_seam old y [] (pos 0) in
    below_more (λ k. get_or floor k (pos 0) ≤ℤ get_or new k (pos 0)) i
    (λ k h. let same : get_or new k (pos 0) ≡ get_or old k (pos 0) = ap (λ (z : List ℤ). get_or z k (pos 0)) e ∙ get_or-append old (y ∷ []) (pos 0) k (omega arith) in let b = before k h in omega (arith, ints))
    (omega (arith, ints))

pub loop-place-preserved : goal.loop-place-preserved
loop-place-preserved c =
    let reserve = c.args.reserve.now.items in
    let place = c.loop-place.place in
    let same : c.deref-floor-items.result.now ≡ reserve = c.deref-floor-items.ensures.0 in
    let inside : place < length reserve = subst (λ (z : List ℤ). place < length z) same c.loop-place-test.true in
    let lies = c.requires.reserve.1 place (pos 0) inside in
    let read : get_or c.deref-floor-items.result.now place (pos 0) ≡ get_or reserve place (pos 0) = ap (λ (z : List ℤ). get_or z place (pos 0)) same in
    let less = c.min.ensures.value in
    let greater = c.max.ensures.value in
    let price = to_z w64 (of_z w64 c.max.result) in
    let high : get_or reserve place (pos 0) ≤ℤ price = omega (arith, ints, clamps, less, greater, read, lies.0, lies.1) in
    let most : price ≤ℤ pos 1000000 = omega (arith, ints, clamps, less, greater, read, lies.0, lies.1) in
    record {
      size = omega (arith, c.push.ensures.len);
      range = subst (All (Lies 1000000)) (sym c.push.ensures.items) (All-push (Lies 1000000) _ _ c.loop-place.invariant.range (omega (arith, ints, high, lies.0), most));
      floor = floor_more reserve _ _ _ _ c.push.ensures.items c.loop-place.invariant.size high c.loop-place.invariant.floor;
    }
