use Rattle.std.proofs.Common.{◌≡◌, ◌≢◌, ℕ, suc, ◌*◌, ◌^◌, ◌<◌, ◌∷◌, length, sym, ap, ◌∙◌, arith, lit≤, w64, to_z, of_z, below_more, get_or-set_other, get_or-set_same}
use Rattle.std.proofs.Math.Nat.{pow-succ'}
use Rattle.std.proofs.lemmas.Int.{ints}
use Rattle.mix_num.specs.Sums.{sum_in}
use Rattle.mix_num.specs.Tables.{number_of}
use Rattle.mix_check.proofs.Spares.{start-is}
use Rattle.mix_check.proofs.TableSums.{all-lies, null-same, sums-range}
use Rattle.mix_check.proofs.WordSums.{lies-wider, word-same}
use Rattle.mix_check.proofs.pairs.start.Goals as goal

pub null_of-null-requires-clause-number : goal.null_of-null-requires-clause-number
null_of-null-requires-clause-number c =
    lies-wider 2056000000 4500000000 _ (lit≤ tt)
    (all-lies (length c.args.supply.now.items) c.args.tables.now c.requires.tables c.len.result c.whole-whole.result c.at.result c.at-2.result c.len.ensures.value c.whole-whole.ensures c.at.ensures.value c.at-2.ensures.value)

pub sum_over-requires-clause-null : goal.sum_over-requires-clause-null
sum_over-requires-clause-null c =
    let near = c.null_of-null.ensures.range 2056000000
    (all-lies (length c.args.supply.now.items) c.args.tables.now c.requires.tables c.len.result c.whole-whole.result c.at.result c.at-2.result c.len.ensures.value c.whole-whole.ensures c.at.ensures.value c.at-2.ensures.value) in
    rw (word-same c.null_of-null.result (lies-wider 2120000000 4000000000000 c.null_of-null.result (lit≤ tt) near)) (lies-wider 2120000000 5000000000 c.null_of-null.result (lit≤ tt) near)

pub loop-bits-preserved : goal.loop-bits-preserved
loop-bits-preserved c =
    let sets : 2 * c.sets_of-bits-end.result ≡ 2 ^ suc (length c.args.supply.now.items) = ap (λ (m : ℕ). 2 * m) (c.sets_of-bits-end.ensures.value ∙ ap (λ (k : ℕ). 2 ^ k) c.len-2.ensures.value) ∙ sym (pow-succ' 2 (length c.args.supply.now.items)) in
    let below : c.loop-bits.bits < 2 ^ suc (length c.args.supply.now.items) = omega (arith, sets) in
    let few = c.sets_of-bits-end.ensures.range in
    let size = c.requires.size in
    let r = sums-range (length c.args.supply.now.items) c.args.tables.now c.requires.tables c.loop-bits.bits below in
    let v = c.sum_over.ensures.value ∙ ap (λ (k : ℕ). sum_in (to_z w64 (of_z w64 c.null_of-null.result) ∷ c.args.supply.now.items) k) c.from_bits-set.ensures in
    let q = c.sum_over.ensures.range in
    let s = c.at-in-loop-bits.ensures.value ∙ ap (λ (k : ℕ). number_of c.args.tables.now.sum k) c.from_bits-set.ensures in
    let t = c.at-in-loop-bits-2.ensures.value ∙ ap (λ (k : ℕ). number_of c.args.tables.now.seller k) c.from_bits-set.ensures in
    record {
      done = below_more _ _
          (λ k h. let ne : k ≢ c.loop-bits.bits = omega arith in rw get_or-set_other (c.loop-bits.invariant.done k h))
          (let lt : c.loop-bits.bits < length c.loop-bits.spare = omega (arith, few, size) in rw get_or-set_same (omega (arith, ints, v, q, s, t, r)));
      range = below_more _ _
          (λ k h. let ne : k ≢ c.loop-bits.bits = omega arith in rw get_or-set_other (c.loop-bits.invariant.range k h))
          (let lt : c.loop-bits.bits < length c.loop-bits.spare = omega (arith, few, size) in rw get_or-set_same (omega (arith, ints, q, s, t, r), omega (arith, ints, q, s, t, r)));
    }

pub returns-clause-value : goal.returns-clause-value
returns-clause-value c = λ order ordered set h.
    let sets : 2 * c.sets_of-bits-end.result ≡ 2 ^ suc (length c.args.supply.now.items) = ap (λ (m : ℕ). 2 * m) (c.sets_of-bits-end.ensures.value ∙ ap (λ (k : ℕ). 2 ^ k) c.len-2.ensures.value) ∙ sym (pow-succ' 2 (length c.args.supply.now.items)) in
    let done = c.loop-bits.invariant.done set (omega (arith, h, sets)) in
    let near = c.null_of-null.ensures.range 2056000000
    (all-lies (length c.args.supply.now.items) c.args.tables.now c.requires.tables c.len.result c.whole-whole.result c.at.result c.at-2.result c.len.ensures.value c.whole-whole.ensures c.at.ensures.value c.at-2.ensures.value) in
    let same = null-same (length c.args.supply.now.items) c.args.tables.now c.requires.tables c.len.result c.whole-whole.result c.at.result c.at-2.result c.len.ensures.value c.whole-whole.ensures c.at.ensures.value c.at-2.ensures.value
    order ordered c.args.supply.now.items c.null_of-null.result c.null_of-null.ensures.value near in
    start-is (length c.args.supply.now.items) c.args.tables.now order ordered c.requires.tables c.args.supply.now.items set h _ _ done same
