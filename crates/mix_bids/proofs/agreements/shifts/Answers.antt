use Rattle.std.proofs.Common.{◌≡◌, ◌≢◌, ◌∙◌, ap₂, subst, sym, arith, below_more, get_or, get_or-set_other, get_or-set_same, length-set, pos, set, to_z, of_z, w64}
use Rattle.std.proofs.lemmas.Int.{ints}
use Rattle.mix_num.specs.Ranges.{Lies}
use Rattle.mix_bids.specs.Leads.{lead}
use Rattle.mix_bids.specs.Shared.{shift_number}
use Rattle.mix_bids.proofs.agreements.shifts.Goals as goal

pub loop-choice-preserved : goal.loop-choice-preserved
loop-choice-preserved c =
    let m = c.loop-choice.choice in
    let r = c.shift.ensures.range in
    let v : to_z w64 (of_z w64 c.shift.result) ≡ c.shift.result = omega (arith, ints) in
    let same : get_or (set c.loop-choice.shifts m (to_z w64 (of_z w64 c.shift.result))) m (pos 0) ≡ c.shift.result = get_or-set_same c.loop-choice.shifts m _ (pos 0) (let size = c.loop-choice.invariant.size in omega arith) ∙ v in
    let size = c.loop-choice.invariant.size in
    record {
      size = length-set c.loop-choice.shifts m _ ∙ size;
      value = below_more _ m
          (λ k l. get_or-set_other c.loop-choice.shifts m k _ (pos 0) (let ne : k ≢ m = omega arith in ne) ∙ c.loop-choice.invariant.value k l)
          (same ∙ c.shift.ensures.value ∙ ap₂ (λ x y. shift_number m (lead x y)) c.offer.ensures.value c.offer-in-loop-choice.ensures.value);
      range = below_more _ m
          (λ k l. subst (Lies 10000008) (sym (get_or-set_other c.loop-choice.shifts m k _ (pos 0) (let ne : k ≢ m = omega arith in ne))) (c.loop-choice.invariant.range k l))
          (subst (Lies 10000008) (sym same) r);
    }
