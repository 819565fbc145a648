-- The first candidate above a lead: from its place on a bid stays below.
use Rattle.std.proofs.Common.{◌≡◌, ℕ, zero, suc, ◌≤◌, ◌<◌, ⊎_elim, Bool, true, false, cond, ltb, List, [], ◌∷◌, ℤ, pos, ◌+ℤ◌, ◌≤ℤ◌, ◌<ℤ◌, refl, arith, sym, ap, ◌∙◌, Option, Some, None, int_lt, length, get_or}
use Rattle.std.proofs.lemmas.Int.{ints}
use Rattle.std.proofs.lemmas.Bool.{cases_lt, cases_order, lt-ltb, le-ltb}
use Rattle.mix_facets.specs.Counted.{is_below}
use Rattle.mix_facets.specs.Grids.{IsRising}
use Rattle.mix_facets.specs.Cells.{first_above, first_place}
use Rattle.mix_facets.proofs.Risings.{rising_at}

int_less : (a b : ℤ) → a <ℤ b → int_lt a b ≡ true
int_less a b h = grind (arith, ints)

int_not_less : (a b : ℤ) → b ≤ℤ a → int_lt a b ≡ false
int_not_less a b h = grind (arith, ints)

-- the place of the first number above v
pub record IsFirstAbove (us : List ℤ) (v : ℤ) (p : ℕ) : Type 0 where
  pub within : p ≤ length us
  pub before : (k : ℕ) → k < p → get_or us k (pos 0) ≤ℤ v
  pub here : p < length us → v <ℤ get_or us p (pos 0)

pub first_above_is : (us : List ℤ) (v : ℤ) → IsFirstAbove us v (first_above us v)
first_above_is [] v = record { within = omega arith; before = λ k h. absurd (omega arith); here = λ h. absurd (omega arith) }
first_above_is (u ∷ us) v = at (int_lt v u) refl (first_above_is us v)
  where
    at : (t : Bool) → int_lt v u ≡ t → IsFirstAbove us v (first_above us v) → IsFirstAbove (u ∷ us) v (cond t 0 (suc (first_above us v)))
    at true e r = record { within = omega arith; before = λ k h. absurd (omega arith); here = λ h. grind (arith, ints) }
    at false e r = record {
      within = let w = r.within in omega arith;
      before = before;
      here = λ h. r.here (omega arith);
    }
      where
        low : int_lt v u ≡ false → u ≤ℤ v
        low q = grind (arith, ints)

        before : (k : ℕ) → k < suc (first_above us v) → get_or (u ∷ us) k (pos 0) ≤ℤ v
        before zero h = low e
        before (suc k) h = r.before k (omega arith)

-- it is the place between the numbers below v + 1 and the others
pub first_above_at : (us : List ℤ) (v : ℤ) (p : ℕ) → p ≤ length us → ((k : ℕ) → k < p → get_or us k (pos 0) <ℤ (v +ℤ pos 1)) → ((k : ℕ) → p ≤ k → k < length us → (v +ℤ pos 1) ≤ℤ get_or us k (pos 0)) → p ≡ first_above us v
first_above_at us v p within below from =
    let r = first_above_is us v in
    let f = first_above us v in
    let w = r.within in
    ⊎_elim (λ e. e) (λ o. ⊎_elim
    (λ l. let a = r.before p l in let b = from p (omega arith) (omega arith) in absurd (omega (arith, ints)))
    (λ l. let a = r.here (omega arith) in let b = below f l in absurd (omega (arith, ints))) o)
    (cases_order p f)

-- at a candidate a lead is below from the first place on
pub below_from : (us : List ℤ) (o : Option ℤ) (d : ℕ) → IsRising us → d < length us → ltb (first_place us o) (suc d) ≡ is_below o (get_or us d (pos 0))
below_from us None d rising h = lt-ltb 0 (suc d) (omega arith)
below_from us (Some v) d rising h =
    let r = first_above_is us v in
    let f = first_above us v in
    ⊎_elim
    (λ l. le-ltb f (suc d) (omega arith) ∙ sym (int_not_less v (get_or us d (pos 0)) (r.before d l)))
    (λ l. lt-ltb f (suc d) (omega arith) ∙ sym (int_less v (get_or us d (pos 0)) (⊎_elim
    (λ e. let a = r.here (omega arith) in let q = ap (λ n. get_or us n (pos 0)) e in omega (arith, ints))
    (λ o. ⊎_elim
    (λ m. let a = r.here (omega arith) in let b = rising_at us f d rising m h in omega (arith, ints))
    (λ m. absurd (omega arith)) o)
    (cases_order f d))))
    (cases_lt d f)
