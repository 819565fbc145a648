use Rattle.std.proofs.Common.{rules, ◌≢◌, ◌<◌, length, get_or, pos, arith, w64, SFits, below_more, get_or-set_other, get_or-set_same}
use Rattle.std.proofs.lemmas.Int.{ints}
use Rattle.mix_demand.proofs.rho.add_numbers.Goals as goal

pub overflow_add-sum : goal.overflow_add-sum
overflow_add-sum c =
    let e = c.loop-k.invariant.rest c.loop-k.k (omega arith) in
    let r = c.requires.range c.loop-k.k (omega arith) in
    let f : SFits w64 (get_or c.args.other.now c.loop-k.k (pos 0)) = search rules in
    let g : SFits w64 (get_or c.args.sum.now c.loop-k.k (pos 0)) = search rules in
    omega (arith, ints, e, r, f, g)

pub loop-k-preserved : goal.loop-k-preserved
loop-k-preserved c =
    let e = c.loop-k.invariant.rest c.loop-k.k (omega arith) in
    let r = c.requires.range c.loop-k.k (omega arith) in
    let f : SFits w64 (get_or c.args.other.now c.loop-k.k (pos 0)) = search rules in
    let g : SFits w64 (get_or c.args.sum.now c.loop-k.k (pos 0)) = search rules in
    record {
      done = below_more _ _
          (λ j h. let ne : j ≢ c.loop-k.k = omega arith in rw get_or-set_other (c.loop-k.invariant.done j h))
          (let lt : c.loop-k.k < length c.loop-k.sum = omega arith in rw get_or-set_same (omega (arith, ints, e, r, f, g)));
      rest = λ j h. let ne : j ≢ c.loop-k.k = omega arith in rw get_or-set_other (c.loop-k.invariant.rest j (omega arith));
    }
