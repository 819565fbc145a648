-- How many leads there are at a new bid's level, from what the last earlier bid of the level keeps.
use Rattle.std.proofs.Common.{◌≡◌, ℕ, zero, suc, ◌<◌, ◌≤◌, Bool, true, false, cond, ◌||◌, List, [], ◌∷◌, ℤ, pos, Option, Some, None, refl, arith, sym, ap, ap₂, ◌∙◌, length, take, int_eq, int_lt}
use Rattle.std.proofs.lemmas.Bool.{false≢true}
use Rattle.std.specs.List.{cons_option}
use Rattle.std.specs.Set.{distinct_count}
use Rattle.mix_bids.specs.Leads.{lead_of, negative_lead}
use Rattle.mix_bids.specs.Levels.{differences, has_lead, is_lead}
use Rattle.mix_bids.specs.Cells.{level_leads}
use Rattle.mix_bids.specs.Counted.{is_among, level_lead}
use Rattle.mix_bids.specs.Shared.{bid_in, negatives}
use Rattle.mix_bids.specs.declared.bid.Bid.{Bid}
use Rattle.mix_bids.proofs.Cases.{by_test}
use Rattle.mix_bids.proofs.LevelTurns.{difference_first, lead_first, leads_first}
use Rattle.mix_bids.proofs.Uniques.{distinct_is_sum, sum_step}

-- a bid of negative weight
abbrev pub IsNegative : Bid → Type 0
IsNegative b = int_lt b.weight (pos 0) ≡ true

-- bids of negative weight, by their places
abbrev pub AreNegative : List Bid → Type 0
AreNegative es = (p : ℕ) → p < length es → IsNegative (bid_in es p)

pub negatives_are : (bs : List Bid) → AreNegative (negatives bs)
negatives_are [] = λ p l. absurd (omega arith)
negatives_are (b ∷ bs) = at (int_lt b.weight (pos 0)) refl (negatives_are bs)
  where
    first : (es : List Bid) → IsNegative b → AreNegative es → AreNegative (b ∷ es)
    first es h r zero l = h
    first es h r (suc p) l = r p (omega arith)

    at : (t : Bool) → int_lt b.weight (pos 0) ≡ t → AreNegative (negatives bs) → AreNegative (cond t (b ∷ negatives bs) (negatives bs))
    at true e r = first (negatives bs) e r
    at false e r = r

-- ---- bids of positive weight have no part in any level

no_level_lead : (i j : ℕ) (d : ℤ) (c : ℕ) (b : Bid) → int_lt b.weight (pos 0) ≡ false → level_lead i j d c b ≡ None
no_level_lead i j d c b h = at (has_lead i j d b)
  where
    at : (t : Bool) → cond t (negative_lead b c i) None ≡ None
    at true = ap (λ z. cond z (lead_of b c i) None) h
    at false = refl

pub leads_of_negatives : (i j : ℕ) (d : ℤ) (c : ℕ) (bs : List Bid) → level_leads i j d c bs ≡ level_leads i j d c (negatives bs)
leads_of_negatives i j d c [] = refl
leads_of_negatives i j d c (b ∷ bs) = by_test (int_lt b.weight (pos 0))
    (λ h. leads_first i j d c b bs ∙ ap (cons_option (level_lead i j d c b)) (leads_of_negatives i j d c bs) ∙ sym (leads_first i j d c b (negatives bs)) ∙ ap (λ t. level_leads i j d c (cond t (b ∷ negatives bs) (negatives bs))) (sym h))
    (λ h. leads_first i j d c b bs ∙ ap (λ o. cons_option o (level_leads i j d c bs)) (no_level_lead i j d c b h) ∙ leads_of_negatives i j d c bs ∙ ap (λ t. level_leads i j d c (cond t (b ∷ negatives bs) (negatives bs))) (sym h))

pub differences_of_negatives : (i j : ℕ) (bs : List Bid) → differences i j bs ≡ differences i j (negatives bs)
differences_of_negatives i j [] = refl
differences_of_negatives i j (b ∷ bs) = by_test (int_lt b.weight (pos 0))
    (λ h. ap (cons_option (negative_lead b i j)) (differences_of_negatives i j bs) ∙ ap (λ t. differences i j (cond t (b ∷ negatives bs) (negatives bs))) (sym h))
    (λ h. ap (λ o. cons_option o (differences i j bs)) (ap (λ z. cond z (lead_of b i j) None) h) ∙ differences_of_negatives i j bs ∙ ap (λ t. differences i j (cond t (b ∷ negatives bs) (negatives bs))) (sym h))

-- ---- a lead is among a level's leads exactly where a bid of the level has it

pub among_intro : (i j : ℕ) (d : ℤ) (c : ℕ) (u : ℤ) (es : List Bid) (p : ℕ) → p < length es → AreNegative es → has_lead i j d (bid_in es p) ≡ true → is_lead (lead_of (bid_in es p) c i) u ≡ true → is_among (level_leads i j d c es) u ≡ true
among_intro i j d c u [] p l n h g = absurd (omega arith)
among_intro i j d c u (e ∷ es) zero l n h g =
    lead_first i j d c u e es
    ∙ ap (λ t. is_lead (cond t (negative_lead e c i) None) u || is_among (level_leads i j d c es) u) h
    ∙ ap (λ t. is_lead (cond t (lead_of e c i) None) u || is_among (level_leads i j d c es) u) (n 0 (omega arith))
    ∙ ap (λ t. t || is_among (level_leads i j d c es) u) g
among_intro i j d c u (e ∷ es) (suc p) l n h g =
    lead_first i j d c u e es ∙ either (is_lead (level_lead i j d c e) u) _ (among_intro i j d c u es p (omega arith) (λ q m. n (suc q) (omega arith)) h g)
  where
    either : (a b : Bool) → b ≡ true → (a || b) ≡ true
    either true b h = refl
    either false b h = h

pub among_elim : (i j : ℕ) (d : ℤ) (c : ℕ) (u : ℤ) (es : List Bid) → is_among (level_leads i j d c es) u ≡ true → (p : ℕ) × (p < length es) × (has_lead i j d (bid_in es p) ≡ true) × (is_lead (lead_of (bid_in es p) c i) u ≡ true)
among_elim i j d c u [] h = absurd (false≢true h)
among_elim i j d c u (e ∷ es) h = by_test (is_lead (level_lead i j d c e) u)
    (λ t. let r = here (has_lead i j d e) (int_lt e.weight (pos 0)) (lead_of e c i) t in (0, omega arith, r.0, r.1))
    (λ t. let r = among_elim i j d c u es (sym (lead_first i j d c u e es ∙ ap (λ z. z || is_among (level_leads i j d c es) u) t) ∙ h) in let q = r.1 in (suc r.0, omega arith, r.2, r.3))
  where
    here : (a b : Bool) (o : Option ℤ) → is_lead (cond a (cond b o None) None) u ≡ true → (a ≡ true) × (is_lead o u ≡ true)
    here true true o h = (refl, h)
    here true false o h = absurd (false≢true h)
    here false true o h = absurd (false≢true h)
    here false false o h = absurd (false≢true h)

-- a level is there exactly where a bid has its difference
pub level_intro : (i j : ℕ) (d : ℤ) (es : List Bid) (p : ℕ) → p < length es → AreNegative es → has_lead i j d (bid_in es p) ≡ true → is_among (differences i j es) d ≡ true
level_intro i j d [] p l n h = absurd (omega arith)
level_intro i j d (e ∷ es) zero l n h =
    difference_first i j d e es
    ∙ ap (λ t. is_lead (cond t (lead_of e i j) None) d || is_among (differences i j es) d) (n 0 (omega arith))
    ∙ ap (λ t. t || is_among (differences i j es) d) h
level_intro i j d (e ∷ es) (suc p) l n h =
    difference_first i j d e es ∙ either (is_lead (negative_lead e i j) d) _ (level_intro i j d es p (omega arith) (λ q m. n (suc q) (omega arith)) h)
  where
    either : (a b : Bool) → b ≡ true → (a || b) ≡ true
    either true b h = refl
    either false b h = h

pub level_none : (i j : ℕ) (d : ℤ) (es : List Bid) → ((p : ℕ) → p < length es → has_lead i j d (bid_in es p) ≡ false) → is_among (differences i j es) d ≡ false
level_none i j d [] h = refl
level_none i j d (e ∷ es) h =
    difference_first i j d e es
    ∙ ap₂ (λ s t. s || t) (lower (int_lt e.weight (pos 0)) (lead_of e i j) (h 0 (omega arith))) (level_none i j d es (λ p l. h (suc p) (omega arith)))
  where
    lower : (t : Bool) (o : Option ℤ) → is_lead o d ≡ false → is_lead (cond t o None) d ≡ false
    lower true o h = h
    lower false o h = refl

-- ---- bids after the last one of a level add no lead to it

pub leads_none : (i j : ℕ) (d : ℤ) (c : ℕ) (es : List Bid) → ((p : ℕ) → p < length es → has_lead i j d (bid_in es p) ≡ false) → level_leads i j d c es ≡ []
leads_none i j d c [] h = refl
leads_none i j d c (e ∷ es) h =
    leads_first i j d c e es
    ∙ ap₂ cons_option (ap (λ t. cond t (negative_lead e c i) None) (h 0 (omega arith))) (leads_none i j d c es (λ p l. h (suc p) (omega arith)))

pub leads_to_last : (i j : ℕ) (d : ℤ) (c : ℕ) (es : List Bid) (q : ℕ) → ((p : ℕ) → q < p → p < length es → has_lead i j d (bid_in es p) ≡ false) → level_leads i j d c (take (suc q) es) ≡ level_leads i j d c es
leads_to_last i j d c [] q h = refl
leads_to_last i j d c (e ∷ es) zero h =
    leads_first i j d c e []
    ∙ ap (cons_option (level_lead i j d c e)) (sym (leads_none i j d c es (λ p l. h (suc p) (omega arith) (omega arith))))
    ∙ sym (leads_first i j d c e es)
leads_to_last i j d c (e ∷ es) (suc q) h =
    leads_first i j d c e (take (suc q) es)
    ∙ ap (cons_option (level_lead i j d c e)) (leads_to_last i j d c es q (λ p l m. h (suc p) (omega arith) (omega arith)))
    ∙ sym (leads_first i j d c e es)

-- ---- a level has no more leads of a choice than there are bids

pub few_leads : (i j : ℕ) (d : ℤ) (c : ℕ) (es : List Bid) → distinct_count int_eq (level_leads i j d c es) ≤ length es
few_leads i j d c [] = omega arith
few_leads i j d c (e ∷ es) =
    let q = ap (distinct_count int_eq) (leads_first i j d c e es) in
    let r = few_leads i j d c es in
    let s = one (level_lead i j d c e) (level_leads i j d c es) in
    omega (arith, q, r, s)
  where
    one : (o : Option ℤ) (us : List ℤ) → distinct_count int_eq (cons_option o us) ≤ suc (distinct_count int_eq us)
    one None us = omega arith
    one (Some u) us =
        let a = distinct_is_sum (u ∷ us) in
        let b = distinct_is_sum us in
        let s = sum_step (λ w. 1) u us in
        let m = bit (is_among us u) in
        omega (arith, a, b, s, m)
      where
        bit : (t : Bool) → cond t 0 1 ≤ 1
        bit true = omega arith
        bit false = omega arith
