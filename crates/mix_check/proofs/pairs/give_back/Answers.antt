use Rattle.std.proofs.Common.{◌≢◌, ◌<◌, List, length, get_or, ℤ, pos, ap, arith, below_more, get_or-set_other, get_or-set_same}
use Rattle.std.proofs.lemmas.Int.{ints}
use Rattle.mix_check.proofs.pairs.give_back.Goals as goal

pub overflow_add-spare : goal.overflow_add-spare
overflow_add-spare c =
    let same = c.numbers-number-items.ensures.value in
    let size = ap (λ (y : List ℤ). length y) same in
    let e = c.loop-set.invariant.rest c.loop-set.set (omega arith) in
    let r = c.requires.range c.loop-set.set (omega (arith, size)) in
    let i = ap (λ (y : List ℤ). get_or y c.loop-set.set (pos 0)) same in
    let t = c.numbers-number-items.ensures.range c.loop-set.set (pos 0) (omega (arith, size)) in
    omega (arith, ints, e, r, i, t)

pub loop-set-preserved : goal.loop-set-preserved
loop-set-preserved c =
    let same = c.numbers-number-items.ensures.value in
    let size = ap (λ (y : List ℤ). length y) same in
    let e = c.loop-set.invariant.rest c.loop-set.set (omega arith) in
    let r = c.requires.range c.loop-set.set (omega (arith, size)) in
    let i = ap (λ (y : List ℤ). get_or y c.loop-set.set (pos 0)) same in
    let t = c.numbers-number-items.ensures.range c.loop-set.set (pos 0) (omega (arith, size)) in
    record {
      done = below_more _ _
          (λ j h. let ne : j ≢ c.loop-set.set = omega arith in rw get_or-set_other (c.loop-set.invariant.done j h))
          (let lt : c.loop-set.set < length c.loop-set.spare = omega (arith, size) in rw get_or-set_same (omega (arith, ints, e, r, i, t)));
      rest = λ j h. let ne : j ≢ c.loop-set.set = omega arith in rw get_or-set_other (c.loop-set.invariant.rest j (omega arith));
    }
