use Rattle.std.proofs.Common.{rules, suc, ◌*◌, ◌^◌, ℤ, arith, ◌∙◌, w64, SFits, subst}
use Rattle.std.proofs.lemmas.Int.{ints, to_z-of_z}
use Rattle.mix_num.specs.Ranges.{Lies}
use Rattle.mix_ties.proofs.Contractions.{LieWithin-mono, cut-room, gap-room, greedy-step, lift-room, most-is, room-below}
use Rattle.mix_ties.specs.Numbered.{IsCut, IsLift, room}
use Rattle.mix_ties.proofs.contraction.give_first.Goals as goal

pub first_most-most-requires-clause-upper_range : goal.first_most-most-requires-clause-upper_range
first_most-most-requires-clause-upper_range c = LieWithin-mono _ _ _ _ c.args.upper.now (omega arith) (omega (arith, room-below c.args.rest)) c.requires.upper_range

pub first_most-most-requires-clause-lower_range : goal.first_most-most-requires-clause-lower_range
first_most-most-requires-clause-lower_range c = LieWithin-mono _ _ _ _ c.args.lower.now (omega arith) (omega (arith, room-below c.args.rest)) c.requires.lower_range

pub cut_first-requires-clause-range : goal.cut_first-requires-clause-range
cut_first-requires-clause-range c = LieWithin-mono _ _ _ _ c.args.upper.now (omega arith) (omega (arith, room-below c.args.rest)) c.requires.upper_range

pub lift_first-requires-clause-range : goal.lift_first-requires-clause-range
lift_first-requires-clause-range c = LieWithin-mono _ _ _ _ c.args.lower.now (omega arith) (omega (arith, room-below c.args.rest)) c.requires.lower_range

pub cut_first-requires-clause-amount : goal.cut_first-requires-clause-amount
cut_first-requires-clause-amount c =
    let at = c.first_most-most.ensures.at in
    let g : Lies (2 * room (suc c.args.rest)) c.first_most-most.result = gap-room c.args.rest (2 ^ suc (suc c.args.rest)) c.args.upper.now c.args.lower.now _ at.0 (room (suc c.args.rest)) c.requires.upper_range c.requires.lower_range (omega (arith, at.1)) at.2 in
    (omega (arith, ints, g, room-below c.args.rest), omega (arith, ints, g, room-below c.args.rest))

pub lift_first-requires-clause-amount : goal.lift_first-requires-clause-amount
lift_first-requires-clause-amount c =
    let at = c.first_most-most.ensures.at in
    let g : Lies (2 * room (suc c.args.rest)) c.first_most-most.result = gap-room c.args.rest (2 ^ suc (suc c.args.rest)) c.args.upper.now c.args.lower.now _ at.0 (room (suc c.args.rest)) c.requires.upper_range c.requires.lower_range (omega (arith, at.1)) at.2 in
    (omega (arith, ints, g, room-below c.args.rest), omega (arith, ints, g, room-below c.args.rest))

pub returns-clause-upper_range : goal.returns-clause-upper_range
returns-clause-upper_range c =
    let at = c.first_most-most.ensures.at in
    let fits : SFits w64 c.first_most-most.result = search rules in
    let same = to_z-of_z w64 c.first_most-most.result fits in
    let e = c.sets_of-half.ensures in
    let g : Lies (2 * room (suc c.args.rest)) c.first_most-most.result = gap-room c.args.rest (2 ^ suc (suc c.args.rest)) c.args.upper.now c.args.lower.now _ at.0 (room (suc c.args.rest)) c.requires.upper_range c.requires.lower_range (omega (arith, at.1)) at.2 in
    rw (← e.value) (cut-room c.args.rest c.sets_of-half.result c.args.upper.now c.cut_first.new.numbers c.first_most-most.result c.requires.rest (rw e.twice c.requires.upper_range) g e.even
    (subst (λ (v : ℤ). IsCut c.sets_of-half.result c.args.upper.now c.cut_first.new.numbers v) same c.cut_first.ensures.cut))

pub returns-clause-lower_range : goal.returns-clause-lower_range
returns-clause-lower_range c =
    let at = c.first_most-most.ensures.at in
    let fits : SFits w64 c.first_most-most.result = search rules in
    let same = to_z-of_z w64 c.first_most-most.result fits in
    let e = c.sets_of-half.ensures in
    let g : Lies (2 * room (suc c.args.rest)) c.first_most-most.result = gap-room c.args.rest (2 ^ suc (suc c.args.rest)) c.args.upper.now c.args.lower.now _ at.0 (room (suc c.args.rest)) c.requires.upper_range c.requires.lower_range (omega (arith, at.1)) at.2 in
    rw (← e.value) (lift-room c.args.rest c.sets_of-half.result c.args.lower.now c.lift_first.new.numbers c.first_most-most.result c.requires.rest (rw e.twice c.requires.lower_range) g e.even
    (subst (λ (v : ℤ). IsLift c.sets_of-half.result c.args.lower.now c.lift_first.new.numbers v) same c.lift_first.ensures.lift))

pub returns-clause-given : goal.returns-clause-given
returns-clause-given c =
    let at = c.first_most-most.ensures.at in
    let e = c.sets_of-half.ensures in
    let fits : SFits w64 c.first_most-most.result = search rules in
    let same = to_z-of_z w64 c.first_most-most.result fits in
    greedy-step c.args.rest c.args.upper.now c.args.lower.now c.cut_first.new.numbers c.lift_first.new.numbers _
    (same ∙ most-is c.args.rest c.args.upper.now c.args.lower.now c.first_most-most.result at.0 (rw e.value at c.first_most-most.ensures.below) (omega (arith, at.1)) at.2)
    (rw e.value at c.cut_first.ensures.cut)
    (rw e.value at c.lift_first.ensures.lift)
