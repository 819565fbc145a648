use Rattle.std.proofs.Common.{List, ltb, ◌≡◌, ◌∙◌, ℕ, ℤ, suc, ◌<◌, ◌+ℤ◌, ◌≤ℤ◌, ◌^◌, pos, Bool, true, false, cond, eqb, arith, ap, ap₂, sym, subst, get_or, length, refl, add-one}
use Rattle.std.proofs.lemmas.List.{get_or_default}
use Rattle.mix_num.specs.Vectors.{members}
use Rattle.mix_num.proofs.Masks.{mask_of}
use Rattle.std.proofs.lemmas.Bool.{ltb-true, ltb-false}
use Rattle.mix_num.specs.Ranges.{Lies}
use Rattle.mix_num.specs.Subsets.{sizes, subset_sum}
use Rattle.mix_num.proofs.SubsetSums.{partial, partial_next, partial_none, partial_all, partial_small}
use Rattle.mix_num.proofs.Cleared.{without_exists, rest_below, few_sets}
use Rattle.mix_num.proofs.set_table.SetTable.subset_sums.Goals as goal

pub loop-choice-init : goal.loop-choice-init
loop-choice-init c = record {
  size = c.self.told;
  done = λ set h. sym (partial_none c.self.inside.numbers set (omega (arith, few_sets c.args.n c.requires.choices)));
  left = λ set h. refl;
}

pub add_without-requires-clause-range : goal.add_without-requires-clause-range
add_without-requires-clause-range c = λ set rest h w.
    let few = few_sets c.args.n c.requires.choices in
    let below = rest_below c.loop-choice.choice set rest w in
    let one = c.loop-choice.invariant.done set h in
    let two = c.loop-choice.invariant.done rest (omega arith) in
    let next = partial_next c.self.inside.numbers c.loop-choice.choice set rest (omega arith) w in
    let small = partial_small c.self.inside.numbers (suc c.loop-choice.choice) set (subst (λ (z : List ℤ). sizes z ≤ℤ pos 4000000000) (sym c.self.view_is) c.requires.small) in
    let same = ap₂ (λ (x y : ℤ). x +ℤ cond (members set c.loop-choice.choice) y (pos 0)) one two ∙ sym next in
    subst (λ (z : ℤ). Lies 4000000000 z) (sym same) small

pub add_without-requires-clause-numbers : goal.add_without-requires-clause-numbers
add_without-requires-clause-numbers c = λ set h.
    subst (λ (z : ℤ). Lies 4000000000 z) (sym (c.loop-choice.invariant.done set h)) (partial_small c.self.inside.numbers c.loop-choice.choice set (subst (λ (z : List ℤ). sizes z ≤ℤ pos 4000000000) (sym c.self.view_is) c.requires.small))

pub invariant_of-self : goal.invariant_of-self
invariant_of-self c = λ k d h. at k d h (ltb k (2 ^ suc c.args.n)) refl
  where
    at : (k : ℕ) (d : ℤ) → k < length c.loop-choice.self-inside.numbers → (b : Bool) → ltb k (2 ^ suc c.args.n) ≡ b → Lies 4000000000 (get_or c.loop-choice.self-inside.numbers k d)
    at k d h true e =
        let same = get_or_default c.loop-choice.self-inside.numbers k d (pos 0) h in
        let small = partial_small c.self.inside.numbers c.loop-choice.choice k (subst (λ (z : List ℤ). sizes z ≤ℤ pos 4000000000) (sym c.self.view_is) c.requires.small) in
        subst (λ (z : ℤ). Lies 4000000000 z) (sym (same ∙ c.loop-choice.invariant.done k (ltb-true k (2 ^ suc c.args.n) e))) small
    at k d h false e =
        let same = get_or_default c.loop-choice.self-inside.numbers k d (pos 0) h in
        subst (λ (z : ℤ). Lies 4000000000 z) (sym (same ∙ c.loop-choice.invariant.left k (ltb-false k (2 ^ suc c.args.n) e))) (c.self.invariant k (pos 0) (omega (arith, c.self.told, c.loop-choice.invariant.size)))

pub loop-choice-preserved : goal.loop-choice-preserved
loop-choice-preserved c = record {
  size = c.add_without.auto.numbers ∙ c.loop-choice.invariant.size;
  done = λ set h.
      let few = few_sets c.args.n c.requires.choices in
      let rest = mask_of 9 (λ k. cond (eqb k c.loop-choice.choice) false (members set k)) in
      let w = without_exists c.loop-choice.choice set (omega arith) in
      let below = rest_below c.loop-choice.choice set rest w in
      let sum = c.add_without.ensures.sums set rest h w in
      let one = c.loop-choice.invariant.done set h in
      let two = c.loop-choice.invariant.done rest (omega arith) in
      let next = partial_next c.self.inside.numbers c.loop-choice.choice set rest (omega arith) w in
      sum ∙ ap₂ (λ (x y : ℤ). x +ℤ cond (members set c.loop-choice.choice) y (pos 0)) one two ∙ sym next ∙ ap (λ (k : ℕ). partial c.self.inside.numbers k set) (sym (add-one c.loop-choice.choice));
  left = λ set h. c.add_without.ensures.others set h ∙ c.loop-choice.invariant.left set h;
}

pub returns-clause-sums : goal.returns-clause-sums
returns-clause-sums c = λ set h.
    let last : c.loop-choice.choice ≡ suc c.args.n = omega arith in
    c.loop-choice.invariant.done set h ∙ ap (λ (k : ℕ). partial c.self.inside.numbers k set) last ∙ partial_all c.self.inside.numbers c.args.n set h ∙ ap (λ (z : List ℤ). subset_sum z set) c.self.view_is
