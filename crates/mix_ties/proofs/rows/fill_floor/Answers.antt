use Rattle.std.proofs.Common.{◌≡◌, ℕ, ◌<◌, ◌≢◌, ◌∷◌, length, arith, ap, ◌∙◌, w64, to_z, of_z, below_more, get_or-set_other, get_or-set_same}
use Rattle.std.proofs.lemmas.Int.{ints, to_z-of_z}
use Rattle.mix_num.specs.Sums.{sum_in}
use Rattle.mix_ties.proofs.rows.fill_floor.Goals as goal

pub loop-set-preserved : goal.loop-set-preserved
loop-set-preserved c =
    let m : ℕ = c.loop-set.set in
    let fits = c.ranges.null in
    let null = to_z-of_z w64 c.args.null fits in
    let b = c.requires.later_range m (omega arith) in
    let r = c.sum_over.ensures.range in
    let v : c.sum_over.result ≡ sum_in (to_z w64 (of_z w64 c.args.null) ∷ c.args.left.now.items) m = c.sum_over.ensures.value ∙ ap (λ (k : ℕ). sum_in (to_z w64 (of_z w64 c.args.null) ∷ c.args.left.now.items) k) (let e : c.from_bits.result ≡ m = omega (arith, c.from_bits.ensures) in e) in
    record {
      done = below_more _ _
          (λ k h. let ne : k ≢ c.loop-set.set = omega arith in rw get_or-set_other (c.loop-set.invariant.done k h))
          (let lt : c.loop-set.set < length c.loop-set.floor = omega arith in rw get_or-set_same (omega (arith, ints, v, b, r)));
      range = below_more _ _
          (λ k h. let ne : k ≢ c.loop-set.set = omega arith in rw get_or-set_other (c.loop-set.invariant.range k h))
          (let lt : c.loop-set.set < length c.loop-set.floor = omega arith in rw get_or-set_same (omega (arith, ints, b, r), omega (arith, ints, b, r)));
    }
