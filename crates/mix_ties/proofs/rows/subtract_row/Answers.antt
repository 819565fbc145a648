use Rattle.std.proofs.Common.{ℕ, ◌<◌, ◌≢◌, length, arith, below_more, get_or-set_other, get_or-set_same}
use Rattle.std.proofs.lemmas.Int.{ints}
use Rattle.mix_ties.proofs.rows.subtract_row.Goals as goal

pub loop-set-preserved : goal.loop-set-preserved
loop-set-preserved c =
    let m : ℕ = c.loop-set.set in
    let e = c.loop-set.invariant.rest m (omega arith) in
    let a = c.requires.sum_range m (omega arith) in
    let b = c.requires.row_range m (omega arith) in
    record {
      done = below_more _ _
          (λ k h. let ne : k ≢ c.loop-set.set = omega arith in rw get_or-set_other (c.loop-set.invariant.done k h))
          (let lt : c.loop-set.set < length c.loop-set.sum = omega arith in rw get_or-set_same (omega (arith, ints, e, a, b)));
      rest = λ k h. let ne : k ≢ c.loop-set.set = omega arith in rw get_or-set_other (c.loop-set.invariant.rest k (omega arith));
    }
