use Rattle.std.proofs.Common.{◌≡◌, ◌≢◌, ℕ, suc, ◌*◌, ◌^◌, ◌<◌, ◌∷◌, ℤ, pos, ◌-ℤ◌, length, get_or, sym, ap, ◌∙◌, arith, lit≤, w64, to_z, of_z, below_more, get_or-set_other, get_or-set_same}
use Rattle.std.proofs.Math.Nat.{pow-succ'}
use Rattle.std.proofs.lemmas.Int.{ints}
use Rattle.mix_num.specs.Ranges.{Lies}
use Rattle.mix_num.specs.Sums.{sum_in}
use Rattle.mix_check.proofs.TableSums.{null-lies, null_share-same}
use Rattle.mix_check.proofs.WordSums.{lies-wider, near-difference, word-difference, word-same}
use Rattle.mix_check.proofs.pairs.take.Goals as goal

pub overflow_sub-spare : goal.overflow_sub-spare
overflow_sub-spare c =
    let sets : 2 * c.sets_of-bits-end.result ≡ 2 ^ suc (length c.args.bundle.now.items) = ap (λ (m : ℕ). 2 * m) (c.sets_of-bits-end.ensures.value ∙ ap (λ (k : ℕ). 2 ^ k) c.len-2.ensures.value) ∙ sym (pow-succ' 2 (length c.args.bundle.now.items)) in
    let e = c.loop-bits.invariant.rest c.loop-bits.bits (omega arith) in
    let r = c.requires.range c.loop-bits.bits (omega (arith, sets)) in
    let q = c.sum_over.ensures.range in
    omega (arith, ints, e, r, q)

pub loop-bits-preserved : goal.loop-bits-preserved
loop-bits-preserved c =
    let sets : 2 * c.sets_of-bits-end.result ≡ 2 ^ suc (length c.args.bundle.now.items) = ap (λ (m : ℕ). 2 * m) (c.sets_of-bits-end.ensures.value ∙ ap (λ (k : ℕ). 2 ^ k) c.len-2.ensures.value) ∙ sym (pow-succ' 2 (length c.args.bundle.now.items)) in
    let few = c.sets_of-bits-end.ensures.range in
    let size = c.requires.size in
    let e = c.loop-bits.invariant.rest c.loop-bits.bits (omega arith) in
    let r = c.requires.range c.loop-bits.bits (omega (arith, sets)) in
    let old : ℤ = get_or c.args.spare.now c.loop-bits.bits (pos 0) in
    let now : ℤ = get_or c.loop-bits.spare c.loop-bits.bits (pos 0) in
    let own = null-lies (length c.args.bundle.now.items) c.args.table.now c.requires.proper c.len.result c.whole.result c.at.result c.len.ensures.value c.whole.ensures c.at.ensures.value in
    let null = c.null_of-null.ensures.range 8000000 own in
    let wide = lies-wider 72000000 4000000000000 c.null_of-null.result (lit≤ tt) null in
    let near = c.sum_over.ensures.near 72000000 (rw (word-same c.null_of-null.result wide) null) in
    let v = c.sum_over.ensures.value ∙ ap (λ (k : ℕ). sum_in (to_z w64 (of_z w64 c.null_of-null.result) ∷ c.args.bundle.now.items) k) c.from_bits.ensures in
    let here : Lies 4000000000000 now = rw e r in
    let minus = word-difference now c.sum_over.result here (lies-wider 136000000 4000000000000 c.sum_over.result (lit≤ tt) near) in
    let lt : c.loop-bits.bits < length c.loop-bits.spare = omega (arith, few, size) in
    record {
      done = below_more _ _
          (λ k h. let ne : k ≢ c.loop-bits.bits = omega arith in rw get_or-set_other (c.loop-bits.invariant.done k h))
          (rw get_or-set_same (minus ∙ ap (λ (x : ℤ). x -ℤ c.sum_over.result) e ∙ ap (λ (x : ℤ). old -ℤ x) v));
      near = below_more _ _
          (λ k h. let ne : k ≢ c.loop-bits.bits = omega arith in rw get_or-set_other (c.loop-bits.invariant.near k h))
          (rw get_or-set_same (near-difference old now c.sum_over.result _ minus e (lies-wider 136000000 140000000 c.sum_over.result (lit≤ tt) near)));
      rest = λ k h. let ne : k ≢ c.loop-bits.bits = omega arith in rw get_or-set_other (c.loop-bits.invariant.rest k (omega arith));
    }

pub returns-clause-value : goal.returns-clause-value
returns-clause-value c = λ set h.
    let sets : 2 * c.sets_of-bits-end.result ≡ 2 ^ suc (length c.args.bundle.now.items) = ap (λ (m : ℕ). 2 * m) (c.sets_of-bits-end.ensures.value ∙ ap (λ (k : ℕ). 2 ^ k) c.len-2.ensures.value) ∙ sym (pow-succ' 2 (length c.args.bundle.now.items)) in
    let done = c.loop-bits.invariant.done set (omega (arith, h, sets)) in
    let own = null-lies (length c.args.bundle.now.items) c.args.table.now c.requires.proper c.len.result c.whole.result c.at.result c.len.ensures.value c.whole.ensures c.at.ensures.value in
    let null = c.null_of-null.ensures.range 8000000 own in
    let same = null_share-same (length c.args.bundle.now.items) c.args.table.now c.requires.proper c.len.result c.whole.result c.at.result c.len.ensures.value c.whole.ensures c.at.ensures.value
    c.args.bundle.now.items c.null_of-null.result c.null_of-null.ensures.value null in
    done ∙ ap (λ (z : ℤ). get_or c.args.spare.now set (pos 0) -ℤ sum_in (z ∷ c.args.bundle.now.items) set) same
