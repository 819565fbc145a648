-- How many leads there are at the level of two choices of a new bid, and by how much the cells of the two grow, from what is known of it.
use Rattle.std.proofs.Common.{◌≡◌, ◌≢◌, ◌∙◌, ℕ, suc, ◌+◌, ◌-◌, ◌<◌, ◌≤◌, Bool, true, false, not, cond, eqb, ltb, List, [], ◌∷◌, ◌++◌, ℤ, ◌-ℤ◌, Option, Some, None, refl, arith, sym, ap, ap₂, get_or, int_eq, length}
use Rattle.std.proofs.lemmas.Bool.{false≢true, ltb-true, ltb-false}
use Rattle.std.specs.Option.{is_some}
use Rattle.std.specs.Set.{distinct_count}
use Rattle.mix_num.specs.Vectors.{members}
use Rattle.mix_num.proofs.Equalities.{int_eq_is}
use Rattle.mix_bids.specs.Offers.{offer}
use Rattle.mix_bids.specs.Leads.{lead, lead_of, negative_lead}
use Rattle.mix_bids.specs.Levels.{differences, has_lead, is_lead, other}
use Rattle.mix_bids.specs.Cells.{factor, level_cells, level_leads}
use Rattle.mix_bids.specs.Counted.{cells_of_leads, counts_in, growth, is_among, leads_at, level_lead, new_in, AreLeads, IsKnown}
use Rattle.mix_bids.specs.Shared.{agreeing, agreement_in, bid_in, is_shift, negatives, shift, IsLast, IsShared}
use Rattle.mix_bids.specs.declared.agreements.Agreement.{Agreement}
use Rattle.mix_bids.specs.declared.bid.Bid.{Bid}
use Rattle.mix_bids.specs.declared.counts.Counts.{Counts}
use Rattle.mix_bids.proofs.Cases.{by_test, same_bool}
use Rattle.mix_bids.proofs.CellPushes.{distinct_with, leads_push, pair_grows, product_same}
use Rattle.mix_bids.proofs.KeptLeads.{among_elim, among_intro, differences_of_negatives, few_leads, leads_none, leads_of_negatives, leads_to_last, level_intro, level_none, negatives_are}
use Rattle.mix_bids.proofs.LevelTurns.{growth_none}
use Rattle.mix_bids.proofs.Shifts.{same_shifts, shifts_are_leads}

lead_is : (o : Option ℤ) (d : ℤ) → is_lead o d ≡ true → o ≡ Some d
lead_is None d h = absurd (false≢true h)
lead_is (Some v) d h = ap Some ((int_eq_is v d).0 h)

-- the choices other than two are others, and there are no more of them than goods
other_apart : (n i j k : ℕ) → i < j → j ≤ n → k < n - 1 → (other i j k ≤ n) × (other i j k ≢ i) × (other i j k ≢ j)
other_apart n i j k l m q = by_test (ltb k i)
    (λ h. at _ (ap (λ z. cond z k (cond (ltb (suc k) j) (suc k) (suc (suc k)))) h) (let a = ltb-true k i h in omega arith) (let a = ltb-true k i h in λ e. omega arith) (let a = ltb-true k i h in λ e. omega arith))
    (λ h. by_test (ltb (suc k) j)
    (λ g. at _ (ap₂ (λ y z. cond y k (cond z (suc k) (suc (suc k)))) h g) (let a = ltb-true (suc k) j g in omega arith) (let a = ltb-false k i h in λ e. omega arith) (let a = ltb-true (suc k) j g in λ e. omega arith))
    (λ g. at _ (ap₂ (λ y z. cond y k (cond z (suc k) (suc (suc k)))) h g) (omega arith) (let a = ltb-false k i h in λ e. omega arith) (let a = ltb-false (suc k) j g in λ e. omega arith)))
  where
    at : (c : ℕ) → other i j k ≡ c → c ≤ n → c ≢ i → c ≢ j → (other i j k ≤ n) × (other i j k ≢ i) × (other i j k ≢ j)
    at c e a b d = (omega arith, λ h. b (sym e ∙ h), λ h. d (sym e ∙ h))

-- the cells of a level whose leads are counted
cells_counted : (n i j : ℕ) (bs : List Bid) (d : ℤ) (us : List ℕ) → ((k : ℕ) → k < n - 1 → get_or us k 0 ≡ distinct_count int_eq (level_leads i j d (other i j k) bs)) → cells_of_leads n i j us ≡ level_cells n i j bs d
unfolding level_cells factor
cells_counted n i j bs d us h = product_same (n - 1) _ _ (λ k l. ap (λ z. cond (eqb (other i j k) 0) 0 1 + z) (h k l))

-- the growth, by the cells of the new bid's level
growth_level : (n : ℕ) (bs : List Bid) (b : Bid) (i j : ℕ) (d : ℤ) → negative_lead b i j ≡ Some d → growth n bs b i j ≡ level_cells n i j (bs ++ b ∷ []) d - cond (is_among (differences i j bs) d) (level_cells n i j bs d) 0
unfolding growth
growth_level n bs b i j d e = let s = pair_grows n i j bs b d e in omega (arith, s)

module _ (n : ℕ) (bs : List Bid) (b : Bid) (set : ℕ) (kept : List Counts) (rs : List Agreement) (known : IsKnown n bs b set kept rs) (i j : ℕ) (order : i < j) (within : j ≤ n) where
  -- the agreement of the bid at a place, at the two choices and at another one
  row_shifts : (c p : ℕ) → c ≤ n → c ≢ j → p < length (negatives bs) → agreeing (agreement_in rs p) j c ≡ is_shift (shift (bid_in (negatives bs) p).values.items b.values.items j) (shift (bid_in (negatives bs) p).values.items b.values.items c)
  row_shifts c p l d q = let m = known.most in (known.agreements.each p q).same j c (omega arith) (omega arith) (λ e. d (sym e))

  row_is : (d : ℤ) → lead_of b i j ≡ Some d → (p : ℕ) → p < length (negatives bs) → agreeing (agreement_in rs p) j i ≡ has_lead i j d (bid_in (negatives bs) p)
  row_is d e p q =
      let x = bid_in (negatives bs) p in
      row_shifts i p (omega arith) (λ h. omega arith) q
      ∙ shifts_are_leads (offer x.values.items i) (offer x.values.items j) (offer b.values.items i) (offer b.values.items j) d e

  row_shares : (c : ℕ) (u : ℤ) → c ≤ n → c ≢ j → lead_of b c i ≡ Some u → (p : ℕ) → p < length (negatives bs) → agreeing (agreement_in rs p) j i ≡ true → agreeing (agreement_in rs p) j c ≡ is_lead (lead_of (bid_in (negatives bs) p) c i) u
  row_shares c u l d e p q h =
      let x = bid_in (negatives bs) p in
      row_shifts c p l d q
      ∙ same_shifts _ (shift x.values.items b.values.items i) _ (sym (row_shifts i p (omega arith) (λ h. omega arith) q) ∙ h)
      ∙ shifts_are_leads (offer x.values.items c) (offer x.values.items i) (offer b.values.items c) (offer b.values.items i) u e

  -- a choice is shared exactly where its lead is there
  shared_is : (d : ℤ) → lead_of b i j ≡ Some d → (s : ℕ) → IsShared rs i j (length rs) s → (c : ℕ) (u : ℤ) → c ≤ n → c ≢ j → lead_of b c i ≡ Some u → is_among (level_leads i j d c bs) u ≡ members s c
  shared_is d e s r c u l m f =
      let size = known.agreements.size in
      ap (λ us. is_among us u) (leads_of_negatives i j d c bs) ∙ same_bool _ _
      (λ h.
      let a = among_elim i j d c u (negatives bs) h in
      let q = a.1 in
      let t = row_is d e a.0 q ∙ a.2 in
      r.all c a.0 (omega arith) t (row_shares c u l m f a.0 q t ∙ a.3))
      (λ h.
      let a = r.met c h in
      let z = a.1 in
      let q : a.0 < length (negatives bs) = omega arith in
      among_intro i j d c u (negatives bs) a.0 q (negatives_are bs) (sym (row_is d e a.0 q) ∙ a.2) (sym (row_shares c u l m f a.0 q a.2) ∙ a.3))

  -- a lead is new exactly where its choice is offered and isn't shared
  new_is : (d : ℤ) → lead_of b i j ≡ Some d → has_lead i j d b ≡ true → (s : ℕ) → IsShared rs i j (length rs) s → (c : ℕ) → c ≤ n → c ≢ j → new_in (level_leads i j d c bs) (level_lead i j d c b) ≡ cond (cond (members set c) (not (members s c)) false) 1 0
  new_is d e h s r c l m =
      ap (λ t. new_in (level_leads i j d c bs) (cond t (negative_lead b c i) None)) h
      ∙ ap (λ t. new_in (level_leads i j d c bs) (cond t (lead_of b c i) None)) known.negative
      ∙ at (offer b.values.items c) (offer b.values.items i) refl refl e
      ∙ ap (λ t. cond (cond t (not (members s c)) false) 1 0) (sym (known.offers c (let q = known.most in omega arith)))
    where
      bit : (t : Bool) → ◌≡◌ {A = ℕ} (cond t 0 1) (cond (not t) 1 0)
      bit true = refl
      bit false = refl

      at : (o p : Option ℤ) → offer b.values.items c ≡ o → offer b.values.items i ≡ p → lead (offer b.values.items i) (offer b.values.items j) ≡ Some d → new_in (level_leads i j d c bs) (lead (offer b.values.items c) (offer b.values.items i)) ≡ cond (cond (is_some (offer b.values.items c)) (not (members s c)) false) 1 0
      at None p x y z = ap₂ (λ o v. new_in (level_leads i j d c bs) (lead o (offer b.values.items i))) x x ∙ ap (λ o. cond (cond (is_some o) (not (members s c)) false) 1 0) (sym x)
      at (Some v) None x y z = absurd (none (sym (ap (λ o. lead o (offer b.values.items j)) y) ∙ z))
        where
          none : None ≢ Some d
          none e = cc
      at (Some v) (Some w) x y z =
          ap₂ (λ o q. new_in (level_leads i j d c bs) (lead o q)) x y
          ∙ ap (λ t. cond t 0 1) (shared_is d e s r c (v -ℤ w) l m (ap₂ lead x y))
          ∙ bit (members s c)
          ∙ ap (λ o. cond (cond (is_some o) (not (members s c)) false) 1 0) (sym x)

  -- the last bid of the level keeps how many leads there are
  kept_is : (d : ℤ) → lead_of b i j ≡ Some d → (q : ℕ) → IsLast (λ p. agreeing (agreement_in rs p) j i) (length rs) (Some q) → (k : ℕ) → k < n - 1 → get_or (leads_at (counts_in kept q) i j) k 0 ≡ distinct_count int_eq (level_leads i j d (other i j k) bs)
  kept_is d e q r k l =
      let size = known.agreements.size in
      let z = r.0 in
      let m : q < length (negatives bs) = omega arith in
      (((known.counts.each q m).at i j order within).leads d (sym (row_is d e q m) ∙ r.1) k l)
      ∙ ap (distinct_count int_eq) (leads_to_last i j d (other i j k) (negatives bs) q (λ p a c. sym (row_is d e p c) ∙ r.2 p a (omega arith)) ∙ sym (leads_of_negatives i j d (other i j k) bs))

  -- where no bid is of the level, there are none
  none_is : (d : ℤ) → lead_of b i j ≡ Some d → IsLast (λ p. agreeing (agreement_in rs p) j i) (length rs) None → (k : ℕ) → 0 ≡ distinct_count int_eq (level_leads i j d (other i j k) bs)
  none_is d e r k =
      let size = known.agreements.size in
      sym (ap (distinct_count int_eq) (leads_of_negatives i j d (other i j k) bs ∙ leads_none i j d (other i j k) (negatives bs) (λ p l. sym (row_is d e p l) ∙ r p (omega arith))))

  -- a level has at most 399 leads of a choice
  few_before : (d : ℤ) (k : ℕ) → distinct_count int_eq (level_leads i j d (other i j k) bs) ≤ 399
  few_before d k = let f = known.few in let l = few_leads i j d (other i j k) bs in omega (arith, l)

  -- with the new bid there is one more where its lead is new
  leads_with : (d : ℤ) → lead_of b i j ≡ Some d → has_lead i j d b ≡ true → (s : ℕ) → IsShared rs i j (length rs) s → (f : ℕ) → ((k : ℕ) → members f k ≡ cond (members set k) (not (members s k)) false)
      → (us vs : List ℕ) → ((k : ℕ) → k < n - 1 → get_or us k 0 ≡ distinct_count int_eq (level_leads i j d (other i j k) bs))
      → ((k : ℕ) → k < n - 1 → get_or vs k 0 ≡ get_or us k 0 + cond (members f (other i j k)) 1 0)
      → (k : ℕ) → k < n - 1 → get_or vs k 0 ≡ distinct_count int_eq (level_leads i j d (other i j k) (bs ++ b ∷ []))
  leads_with d e h s r f fresh us vs before after k l =
      let c = other i j k in
      let a = other_apart n i j k order within l in
      after k l
      ∙ ap₂ (λ x y. x + y) (before k l) (ap (λ t. cond t 1 0) (fresh c) ∙ sym (new_is d e h s r c a.0 a.2))
      ∙ sym (distinct_with (level_leads i j d c bs) (level_lead i j d c b))
      ∙ ap (distinct_count int_eq) (sym (leads_push i j d c bs b))

-- the leads of the same numbers are the leads at each difference that the bid has
are_leads : (n : ℕ) (bs : List Bid) (b : Bid) (i j : ℕ) (d : ℤ) (us : List ℕ) → lead_of b i j ≡ Some d
    → ((k : ℕ) → k < n - 1 → get_or us k 0 ≡ distinct_count int_eq (level_leads i j d (other i j k) bs)) → AreLeads n bs b i j us
are_leads n bs b i j d us e h = record { leads = λ u g k l. let q : d ≡ u = same (sym e ∙ lead_is (lead_of b i j) u g) in h k l ∙ ap (λ z. distinct_count int_eq (level_leads i j z (other i j k) bs)) q }
  where
    same : {u : ℤ} → Some d ≡ Some u → d ≡ u
    same q = cc

-- ---- two choices that the bid offers both, or not

offered_lead : (o p : Option ℤ) → is_some o ≡ true → is_some p ≡ true → (d : ℤ) × (lead o p ≡ Some d)
offered_lead None p h g = absurd (false≢true h)
offered_lead (Some v) None h g = absurd (false≢true g)
offered_lead (Some v) (Some u) h g = (v -ℤ u, refl)

lacking_lead : (o p : Option ℤ) → cond (is_some o) (is_some p) false ≡ false → lead o p ≡ None
lacking_lead None p h = refl
lacking_lead (Some v) None h = refl
lacking_lead (Some v) (Some u) h = absurd (false≢true (sym h))

has_lead_of : (o : Option ℤ) (d : ℤ) → o ≡ Some d → is_lead o d ≡ true
has_lead_of o d e = ap (λ z. is_lead z d) e ∙ (int_eq_is d d).1 refl

offered_both : (n : ℕ) (bs : List Bid) (b : Bid) (set : ℕ) (kept : List Counts) (rs : List Agreement) (i j : ℕ) → IsKnown n bs b set kept rs → i < j → j ≤ n → cond (members set i) (members set j) false ≡ true → (d : ℤ) × (lead_of b i j ≡ Some d)
offered_both n bs b set kept rs i j known l m h =
    let q = known.most in
    let a = both (members set i) (members set j) h in
    offered_lead (offer b.values.items i) (offer b.values.items j) (sym (known.offers i (omega arith)) ∙ a.0) (sym (known.offers j (omega arith)) ∙ a.1)
  where
    both : (s t : Bool) → cond s t false ≡ true → (s ≡ true) × (t ≡ true)
    both true t h = (refl, h)
    both false t h = absurd (false≢true h)

lacking_both : (n : ℕ) (bs : List Bid) (b : Bid) (set : ℕ) (kept : List Counts) (rs : List Agreement) (i j : ℕ) → IsKnown n bs b set kept rs → i < j → j ≤ n → cond (members set i) (members set j) false ≡ false → lead_of b i j ≡ None
lacking_both n bs b set kept rs i j known l m h =
    let q = known.most in
    lacking_lead (offer b.values.items i) (offer b.values.items j) (ap₂ (λ s t. cond s t false) (sym (known.offers i (omega arith))) (sym (known.offers j (omega arith))) ∙ h)

-- ---- the answers of one pair of choices

pub lacking_growth : (n : ℕ) (bs : List Bid) (b : Bid) (set : ℕ) (kept : List Counts) (rs : List Agreement) (i j : ℕ) → IsKnown n bs b set kept rs → i < j → j ≤ n → cond (members set i) (members set j) false ≡ false → 0 ≡ growth n bs b i j
lacking_growth n bs b set kept rs i j known l m h = growth_none n bs b i j (ap₂ (λ s o. cond s o None) known.negative (lacking_both n bs b set kept rs i j known l m h))

pub lacking_leads : (n : ℕ) (bs cs : List Bid) (b : Bid) (set : ℕ) (kept : List Counts) (rs : List Agreement) (i j : ℕ) (us : List ℕ) → IsKnown n bs b set kept rs → i < j → j ≤ n → cond (members set i) (members set j) false ≡ false → AreLeads n cs b i j us
lacking_leads n bs cs b set kept rs i j us known l m h = record { leads = λ d g k q. absurd (none (sym (lacking_both n bs b set kept rs i j known l m h) ∙ lead_is (lead_of b i j) d g)) }
  where
    none : {d : ℤ} → None ≡ Some d → ⊥
    none e = cc

pub last_few : (n : ℕ) (bs : List Bid) (b : Bid) (set : ℕ) (kept : List Counts) (rs : List Agreement) (i j q : ℕ) → IsKnown n bs b set kept rs → i < j → j ≤ n → cond (members set i) (members set j) false ≡ true
    → IsLast (λ p. agreeing (agreement_in rs p) j i) (length rs) (Some q) → (k : ℕ) → k < n - 1 → get_or (leads_at (counts_in kept q) i j) k 0 ≤ 399
last_few n bs b set kept rs i j q known l m h r k z =
    let o = offered_both n bs b set kept rs i j known l m h in
    let e = kept_is n bs b set kept rs known i j l m o.0 o.1 q r k z in
    let f = few_before n bs b set kept rs known i j l m o.0 k in
    omega (arith, e, f)

pub some_leads : (n : ℕ) (bs : List Bid) (b : Bid) (set : ℕ) (kept : List Counts) (rs : List Agreement) (i j q s f : ℕ) (vs : List ℕ) → IsKnown n bs b set kept rs → i < j → j ≤ n → cond (members set i) (members set j) false ≡ true
    → IsLast (λ p. agreeing (agreement_in rs p) j i) (length rs) (Some q) → IsShared rs i j (length rs) s → ((k : ℕ) → members f k ≡ cond (members set k) (not (members s k)) false)
    → ((k : ℕ) → k < n - 1 → get_or vs k 0 ≡ get_or (leads_at (counts_in kept q) i j) k 0 + cond (members f (other i j k)) 1 0)
    → AreLeads n (bs ++ b ∷ []) b i j vs × (cells_of_leads n i j vs - cells_of_leads n i j (leads_at (counts_in kept q) i j) ≡ growth n bs b i j)
some_leads n bs b set kept rs i j q s f vs known l m h r shared fresh after =
    let o = offered_both n bs b set kept rs i j known l m h in
    let d = o.0 in
    let us = leads_at (counts_in kept q) i j in
    let g = has_lead_of (lead_of b i j) d o.1 in
    let before : (k : ℕ) → k < n - 1 → get_or us k 0 ≡ distinct_count int_eq (level_leads i j d (other i j k) bs) = kept_is n bs b set kept rs known i j l m d o.1 q r in
    let leads = leads_with n bs b set kept rs known i j l m d o.1 g s shared f fresh us vs before after in
    let size = known.agreements.size in
    let z = r.0 in
    let there : is_among (differences i j bs) d ≡ true =
    ap (λ ds. is_among ds d) (differences_of_negatives i j bs) ∙ level_intro i j d (negatives bs) q (omega arith) (negatives_are bs) (sym (row_is n bs b set kept rs known i j l m d o.1 q (omega arith)) ∙ r.1) in (
      are_leads n (bs ++ b ∷ []) b i j d vs o.1 leads,
      ap₂ (λ x y. x - y) (cells_counted n i j (bs ++ b ∷ []) d vs leads) (cells_counted n i j bs d us before ∙ sym (ap (λ t. cond t (level_cells n i j bs d) 0) there))
          ∙ sym (growth_level n bs b i j d (ap₂ (λ t v. cond t v None) known.negative o.1)),
    )

pub none_leads : (n : ℕ) (bs : List Bid) (b : Bid) (set : ℕ) (kept : List Counts) (rs : List Agreement) (i j s f : ℕ) (vs : List ℕ) → IsKnown n bs b set kept rs → i < j → j ≤ n → cond (members set i) (members set j) false ≡ true
    → IsLast (λ p. agreeing (agreement_in rs p) j i) (length rs) None → IsShared rs i j (length rs) s → ((k : ℕ) → members f k ≡ cond (members set k) (not (members s k)) false)
    → ((k : ℕ) → k < n - 1 → get_or vs k 0 ≡ cond (members f (other i j k)) 1 0)
    → AreLeads n (bs ++ b ∷ []) b i j vs × (cells_of_leads n i j vs ≡ growth n bs b i j)
none_leads n bs b set kept rs i j s f vs known l m h r shared fresh after =
    let o = offered_both n bs b set kept rs i j known l m h in
    let d = o.0 in
    let g = has_lead_of (lead_of b i j) d o.1 in
    let before : (k : ℕ) → k < n - 1 → get_or [] k 0 ≡ distinct_count int_eq (level_leads i j d (other i j k) bs) = λ k z. none_is n bs b set kept rs known i j l m d o.1 r k in
    let leads = leads_with n bs b set kept rs known i j l m d o.1 g s shared f fresh [] vs before (λ k z. after k z ∙ none _) in
    let size = known.agreements.size in
    let new : is_among (differences i j bs) d ≡ false =
    ap (λ ds. is_among ds d) (differences_of_negatives i j bs) ∙ level_none i j d (negatives bs) (λ p z. sym (row_is n bs b set kept rs known i j l m d o.1 p z) ∙ r p (omega arith)) in (
      are_leads n (bs ++ b ∷ []) b i j d vs o.1 leads,
      cells_counted n i j (bs ++ b ∷ []) d vs leads
          ∙ less (is_among (differences i j bs) d) _ _ new
          ∙ sym (growth_level n bs b i j d (ap₂ (λ t v. cond t v None) known.negative o.1)),
    )
  where
    none : (x : ℕ) → x ≡ 0 + x
    none x = omega arith

    less : (t : Bool) (x y : ℕ) → t ≡ false → x ≡ x - cond t y 0
    less true x y e = absurd (false≢true (sym e))
    less false x y e = omega arith
