use Rattle.std.proofs.Common.{◌<◌, ◌∙◌, ℤ, pos, List, length, get_or, ap, arith}
use Rattle.std.proofs.lemmas.Int.{ints}
use Rattle.mix_own.proofs.GrossSupplies.{sum_step}
use Rattle.mix_own.proofs.offering.together.Goals as goal

pub overflow_add-sum : goal.overflow_add-sum
overflow_add-sum c =
    let inside : c.loop-k.k < length c.args.owned.now = omega arith in
    let at = ap (λ (z : List ℤ). get_or z c.args.i (pos 0)) (c.deref.ensures.0 ∙ c.get.ensures) in
    let step = sum_step c.args.owned.now c.loop-k.k c.args.i _ c.requires.amounts c.requires.most inside c.loop-k.invariant.value c.loop-k.invariant.least in
    omega (arith, ints, at, step.0, step.1)

pub loop-k-preserved : goal.loop-k-preserved
loop-k-preserved c =
    let inside : c.loop-k.k < length c.args.owned.now = omega arith in
    let at = ap (λ (z : List ℤ). get_or z c.args.i (pos 0)) (c.deref.ensures.0 ∙ c.get.ensures) in
    let step = sum_step c.args.owned.now c.loop-k.k c.args.i _ c.requires.amounts c.requires.most inside c.loop-k.invariant.value c.loop-k.invariant.least in
    record {
      value = omega (arith, ints, at, step.0, step.1, step.2);
      least = omega (arith, ints, at, step.0, step.1);
    }
