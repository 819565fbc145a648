use Rattle.std.proofs.Common.{◌∙◌, ap₂, arith, int_eq, ltb}
use Rattle.std.proofs.lemmas.List.{get_or_past}
use Rattle.std.proofs.lemmas.Bool.{ltb-true, ltb-false}
use Rattle.mix_bids.specs.Shared.{shift}
use Rattle.mix_bids.proofs.Cases.{by_test}
use Rattle.mix_bids.proofs.Shifts.{same_numbers, shift_lies, offer_is}
use Rattle.mix_bids.proofs.agreements.agreement_of.Goals as goal

pub returns : goal.returns
returns c =
    let i = c.loop-choice.invariant in
    let vs = c.args.earlier.now.items in
    let us = c.args.new.now.items in
    let size = i.size in
    record {
      small = λ a. by_test (ltb a 9)
          (λ h. i.small a (let l = ltb-true a 9 h in omega arith))
          (λ h. let l = ltb-false a 9 h in let e = get_or_past c.loop-choice.sets a 0 (omega arith) in omega (arith, e));
      same = λ a k l m d.
          i.same a (omega arith) k m
          ∙ ap₂ int_eq (c.shifts-shifts.ensures.value k m) (c.shifts-shifts.ensures.value a l)
          ∙ same_numbers a k (shift vs us a) (shift vs us k) d
          (shift_lies _ _ (offer_is c.requires.0 vs c.requires.2 a) (offer_is c.requires.0 us c.requires.3 a))
          (shift_lies _ _ (offer_is c.requires.0 vs c.requires.2 k) (offer_is c.requires.0 us c.requires.3 k));
    }
