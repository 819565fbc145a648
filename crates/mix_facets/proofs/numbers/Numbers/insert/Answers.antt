use Rattle.std.proofs.Common.{◌≡◌, inl, inr, ⊎_elim, ℤ, List, length, ap₂, pos, get_or, Contains, arith, ap, sym, ◌∙◌, subst, to_z, of_z, w64}
use Rattle.std.proofs.lemmas.Int.{ints}
use Rattle.std.proofs.lemmas.List.{get_or_default}
use Rattle.std.specs.List.{insert}
use Rattle.mix_facets.specs.Grids.{IsRising}
use Rattle.mix_facets.proofs.Risings.{IsPlaceOf, place_at, rising_insert, contains_insert}
use Rattle.mix_facets.proofs.numbers.Numbers.insert.Goals as goal
use Rattle.mix_facets.proofs.numbers.Numbers.insert.Goals.{In-Ok, else-place-len-via-then-place-len+else-index-number, else-place-len-via-else-place-len}

rising : (c : In-Ok) → IsRising c.args.self.now
rising c = subst IsRising c.self.view_is c.self.invariant

same : (c : In-Ok) → to_z w64 (of_z w64 c.in-Some.number) ≡ c.in-Some.number
same c = omega (arith, ints)

-- the number isn't there, so its place lies between those below it and those above
is_place : (c : In-Ok) → IsPlaceOf c.args.self.now c.first_from-place.result c.in-Some.number
is_place c =
    let e = same c in
    let f = c.first_from-place.ensures in
    place_at c.args.self.now c.first_from-place.result c.in-Some.number (rising c) f.within
    (λ k h. let r = f.below k h in omega (arith, ints))
    (λ k h l. let r = f.from k h l in omega (arith, ints))
    (elim c.else-place-len.branch [
      | else-place-len-via-then-place-len+else-index-number w ↦ λ l q. let v = ap (λ z. get_or z c.first_from-place.result (pos 0)) c.self.view_is in w.if-index-number.false
          (ap (of_z w64) (w.index.ensures ∙ get_or_default c.self.inside.numbers.items c.first_from-place.result w.index.result.now (pos 0) (omega (arith, ap length c.self.view_is)) ∙ v ∙ q))
      | else-place-len-via-else-place-len w ↦ λ l q. omega (arith, ap length c.self.view_is, c.self.inside.numbers.ok, c.len.ensures, w.if-place-len.false)
    ])

-- the numbers afterwards
now_is : (c : In-Ok) → c.insert.new.self.items ≡ insert c.args.self.now c.first_from-place.result c.in-Some.number
now_is c = c.in-Ok.ensures.items ∙ ap₂ (λ (us : List ℤ) (v : ℤ). insert us c.first_from-place.result v) c.self.view_is (same c)

pub invariant_of-self-2 : goal.invariant_of-self-2
invariant_of-self-2 c = subst IsRising (sym (now_is c)) (rising_insert c.args.self.now c.first_from-place.result c.in-Some.number (rising c) (is_place c))

pub returns-clause-added : goal.returns-clause-added
returns-clause-added c = λ v.
    let r = contains_insert c.args.self.now c.first_from-place.result c.in-Some.number v in (
      λ h. ⊎_elim (λ m. inl m) (λ e. inr (c.in-Some.is ∙ e)) (r.0 (subst (λ (z : List ℤ). Contains z v) (now_is c) h)),
      λ h. subst (λ (z : List ℤ). Contains z v) (sym (now_is c)) (r.1 (⊎_elim (λ m. inl m) (λ e. inr (sym c.in-Some.is ∙ e)) h)),
    )
