use Rattle.std.proofs.Common.{◌≡◌, ◌≢◌, ℕ, ◌+◌, ◌-◌, ◌<◌, ◌≤◌, ⊎_elim, pos, ◌+ℤ◌, arith, sym, ap, ◌∙◌, get_or, get_or-set_other, get_or-set_same, set, length-set, eq-or-lt_of_le, to_z, of_z, w64}
use Rattle.std.proofs.lemmas.Int.{ints}
use Rattle.mix_facets.proofs.cells.add_block.Goals as goal

pub loop-place-preserved : goal.loop-place-preserved
loop-place-preserved c =
    let i = c.loop-place.place in
    let cells = c.loop-place.cells in
    let inv = c.loop-place.invariant in
    let low : c.args.start + c.args.stride ≤ i = omega arith in
    let high : i < c.args.end = omega arith in
    let all = c.requires.sums in
    let here = all.1.later i low high in
    let range = all.2 i high (omega arith) in
    let range_before = all.2 (i - c.args.stride) (omega arith) (omega arith) in
    let a = inv.rest i (omega arith) in
    let b = inv.sums all.0 all.1 (i - c.args.stride) (omega arith) (omega arith) in
    let x = get_or cells i (pos 0) in
    let y = get_or cells (i - c.args.stride) (pos 0) in
    let v = to_z w64 (of_z w64 (to_z w64 (of_z w64 x) +ℤ to_z w64 (of_z w64 y))) in
    let e : v ≡ x +ℤ y = omega (arith, ints) in
    let other = λ (k : ℕ) (d : k ≢ i). get_or-set_other cells i k v (pos 0) d in
    record {
      sums = λ sums are k p q. ⊎_elim
          (λ m. let f = are.later i low high in
          let g = inv.sums sums are (i - c.args.stride) (omega arith) (omega arith) in
          let h : v ≡ sums i = omega (arith, ints) in
          ap (λ z. get_or (set cells i v) z (pos 0)) m ∙ get_or-set_same cells i v (pos 0) (omega (arith, inv.size)) ∙ h ∙ ap sums (sym m))
          (λ m. other k (λ z. omega arith) ∙ inv.sums sums are k p m)
          (let m : k ≤ i = omega arith in eq-or-lt_of_le m);
      before = λ k p. other k (λ z. omega arith) ∙ inv.before k p;
      rest = λ k p. other k (λ z. omega arith) ∙ inv.rest k (omega arith);
      size = length-set cells i v ∙ inv.size;
    }
