use Rattle.std.proofs.Common.{rules, ◌≡◌, suc, ◌-◌, arith, sym, ◌∙◌, w64, SFits, length-append, pow_mono, append-nil}
use Rattle.std.proofs.lemmas.Int.{to_z-of_z}
use Rattle.mix_ties.proofs.Contractions.{loop-step}
use Rattle.mix_ties.proofs.contraction.greatest.Goals as goal

pub give_first-most-requires-clause-upper_size : goal.give_first-most-requires-clause-upper_size
give_first-most-requires-clause-upper_size c =
    let back : suc (c.loop-left.left - 1) ≡ c.loop-left.left = omega arith in
    rw back (omega (arith, pow_mono {i = suc c.loop-left.left} {j = suc c.args.goods} (omega arith)))

pub give_first-most-requires-clause-lower_size : goal.give_first-most-requires-clause-lower_size
give_first-most-requires-clause-lower_size c =
    let back : suc (c.loop-left.left - 1) ≡ c.loop-left.left = omega arith in
    rw back (omega (arith, pow_mono {i = suc c.loop-left.left} {j = suc c.args.goods} (omega arith)))

pub loop-left-preserved : goal.loop-left-preserved
loop-left-preserved c =
    let back : c.loop-left.left ≡ suc (c.loop-left.left - 1) = omega arith in
    let fits : SFits w64 c.give_first-most.result = search rules in
    let same = to_z-of_z w64 c.give_first-most.result fits in
    record {
      count = rw (c.push.ensures.items, length-append) (omega arith);
      upper_size = omega arith;
      lower_size = omega arith;
      upper_room = c.give_first-most.ensures.upper_range;
      lower_room = c.give_first-most.ensures.lower_range;
      value = rw (c.push.ensures.items, same) (loop-step c.args.goods (c.loop-left.left - 1) c.loop-left.left c.args.upper.now c.args.lower.now c.loop-left.upper c.loop-left.lower c.give_first-most.new.upper c.give_first-most.new.lower c.give_first-most.result c.loop-left.amounts.items back c.loop-left.invariant.value c.give_first-most.ensures.given);
    }

pub returns : goal.returns
returns c =
    let none : c.loop-left.left ≡ 0 = omega arith in
    sym (append-nil _) ∙ sym (rw none at c.loop-left.invariant.value)
