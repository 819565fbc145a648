-- A point is moved down to the candidates in every coordinate, and the weight that is counted does not rise.
use Rattle.std.proofs.Common.{◌≡◌, ◌≢◌, ℕ, suc, ◌⊎◌, inl, inr, ⊎_elim, Bool, true, false, cond, eqb, List, [], ◌∷◌, ℤ, pos, ◌+ℤ◌, ◌≤ℤ◌, ◌<ℤ◌, refl, arith, sym, ap, ◌∙◌, Option, Some, None, int_lt, Contains, filter_map, unwrap_or, option_map}
use Rattle.std.proofs.lemmas.Int.{ints, clamps, by_lt_z}
use Rattle.std.proofs.lemmas.Bool.{false≢true}
use Rattle.std.proofs.lemmas.Bool.Decides.{nat_tests}
use Rattle.std.proofs.lemmas.List.Elements.{Contains-append_left, Contains-append_right}
use Rattle.std.specs.Int.{int_min, int_max}
use Rattle.mix_num.specs.Vectors.{Vector}
use Rattle.mix_bids.specs.Offers.{pair}
use Rattle.mix_bids.specs.declared.bid.Bid.{Bid}
use Rattle.mix_bids.proofs.Sets.{all_to-true, all_to-intro}
use Rattle.mix_bids.specs.Leads.{lead_of}
use Rattle.mix_facets.specs.Counted.{is_below, is_counted, weight_counted}
use Rattle.mix_facets.specs.Candidates.{lesser, least_lead, counting_from, lowest, candidates}
use Rattle.mix_facets.proofs.Members.{In, contains_first, contains_option, contains_behind}

-- ---- the least lead

-- a number that is there and at most v
pub record AtMost (o : Option ℤ) (v : ℤ) : Type 0 where
  pub number : ℤ
  pub is : o ≡ Some number
  pub low : number ≤ℤ v

lesser_left : (o p : Option ℤ) (v : ℤ) → AtMost o v → AtMost (lesser o p) v
lesser_left None p v h = let e = h.is in absurd (cc)
lesser_left (Some a) None v h = h
lesser_left (Some a) (Some b) v h =
    let e = h.is in
    let q : a ≡ h.number = cc in
    let l = h.low in
    record { number = int_min a b; is = refl; low = omega (arith, ints, clamps) }

lesser_right : (o p : Option ℤ) (v : ℤ) → p ≡ Some v → AtMost (lesser o p) v
lesser_right o None v e = absurd (cc)
lesser_right None (Some b) v e = record { number = b; is = refl; low = let q : b ≡ v = cc in omega (arith, ints) }
lesser_right (Some a) (Some b) v e = record { number = int_min a b; is = refl; low = let q : b ≡ v = cc in omega (arith, ints, clamps) }

least_stays : (i c : ℕ) (bs : List Bid) (o : Option ℤ) (v : ℤ) → AtMost o v → AtMost (least_lead i c bs o) v
least_stays i c [] o v h = h
least_stays i c (b ∷ bs) o v h = least_stays i c bs (lesser o (lead_of b c i)) v (lesser_left o (lead_of b c i) v h)

least_bound : (i c : ℕ) (bs : List Bid) (o : Option ℤ) (b : Bid) (v : ℤ) → In b bs → lead_of b c i ≡ Some v → AtMost (least_lead i c bs o) v
least_bound i c [] o b v h e = absurd h
least_bound i c (a ∷ bs) o b v (inl q) e = least_stays i c bs (lesser o (lead_of a c i)) v (lesser_right o (lead_of a c i) v (sym (ap (λ z. lead_of z c i) q) ∙ e))
least_bound i c (a ∷ bs) o b v (inr k) e = least_bound i c bs (lesser o (lead_of a c i)) b v k e

-- no bid that offers the choice leads by less than the lowest coordinate
pub lowest_bound : (i c : ℕ) (bs : List Bid) (b : Bid) (v : ℤ) → In b bs → lead_of b c i ≡ Some v → lowest i c bs ≤ℤ v
lowest_bound i c bs b v h e =
    let m = least_bound i c bs None b v h e in
    let l = m.low in
    let q : lowest i c bs ≡ m.number = ap (λ z. unwrap_or z (pos 0)) m.is in
    omega (arith, ints)

-- ---- one coordinate

-- the greater of t and a candidate that is at most y
abbrev pub raised_to : Option ℤ → ℤ → ℤ → ℤ
raised_to None y t = t
raised_to (Some w) y t = cond (int_lt y w) t (int_max t w)

-- the greatest of t and of the candidates at or below y
abbrev pub moved_from : ℕ → ℕ → List Bid → ℤ → ℤ → ℤ
moved_from i c [] y t = t
moved_from i c (b ∷ bs) y t = moved_from i c bs y (raised_to (counting_from i c b) y t)

-- the greatest candidate at or below y, or the lowest coordinate
abbrev pub moved_at : ℕ → ℕ → List Bid → ℤ → ℤ
moved_at i c bs y = moved_from i c bs y (lowest i c bs)

raised_more : (o : Option ℤ) (y t : ℤ) → t ≤ℤ raised_to o y t
raised_more None y t = omega (arith, ints)
raised_more (Some w) y t = grind (arith, ints)

moved_more : (i c : ℕ) (bs : List Bid) (y t : ℤ) → t ≤ℤ moved_from i c bs y t
moved_more i c [] y t = omega (arith, ints)
moved_more i c (b ∷ bs) y t =
    let p = raised_more (counting_from i c b) y t in
    let q = moved_more i c bs y (raised_to (counting_from i c b) y t) in
    omega (arith, ints)

raised_reaches : (o : Option ℤ) (y t w : ℤ) → o ≡ Some w → w ≤ℤ y → w ≤ℤ raised_to o y t
raised_reaches None y t w e h = absurd (cc)
raised_reaches (Some u) y t w e h = let q : u ≡ w = cc in grind (arith, ints)

moved_reaches : (i c : ℕ) (bs : List Bid) (y t : ℤ) (b : Bid) (w : ℤ) → In b bs → counting_from i c b ≡ Some w → w ≤ℤ y → w ≤ℤ moved_from i c bs y t
moved_reaches i c [] y t b w h e l = absurd h
moved_reaches i c (a ∷ bs) y t b w (inl q) e l =
    let p = raised_reaches (counting_from i c a) y t w (sym (ap (counting_from i c) q) ∙ e) l in
    let r = moved_more i c bs y (raised_to (counting_from i c a) y t) in
    omega (arith, ints)
moved_reaches i c (a ∷ bs) y t b w (inr k) e l = moved_reaches i c bs y _ b w k e l

-- where a move ends: where it began, or at a candidate at or below y
raised_ends : (o : Option ℤ) (y t : ℤ) → (raised_to o y t ≡ t) ⊎ ((o ≡ Some (raised_to o y t)) × (raised_to o y t ≤ℤ y))
raised_ends None y t = inl refl
raised_ends (Some w) y t = by_lt_z y w
    (λ l. inl (let p : int_lt y w ≡ true = grind (arith, ints) in ap (λ z. cond z t (int_max t w)) p))
    (λ l. let p : int_lt y w ≡ false = grind (arith, ints) in
    let e : cond (int_lt y w) t (int_max t w) ≡ int_max t w = ap (λ z. cond z t (int_max t w)) p in
    by_lt_z t w
    (λ m. let q : int_max t w ≡ w = omega (arith, ints, clamps) in inr (ap Some (sym (e ∙ q)), let r = e ∙ q in omega (arith, ints)))
    (λ m. let q : int_max t w ≡ t = omega (arith, ints, clamps) in inl (e ∙ q)))

-- a move of the whole list ends at a candidate
pub record IsReached (i c : ℕ) (bs : List Bid) (y u : ℤ) : Type 0 where
  pub candidate : Contains (filter_map (counting_from i c) bs) u
  pub low : u ≤ℤ y

moved_ends : (i c : ℕ) (bs : List Bid) (y t : ℤ) → (moved_from i c bs y t ≡ t) ⊎ IsReached i c bs y (moved_from i c bs y t)
moved_ends i c [] y t = inl refl
moved_ends i c (b ∷ bs) y t = ⊎_elim
    (λ e. ⊎_elim (λ f. inl (e ∙ f))
    (λ f. inr (record {
      candidate = contains_option (counting_from i c b) (filter_map (counting_from i c) bs) _ (f.0 ∙ ap Some (sym e));
      low = let l = f.1 in omega (arith, ints);
    }))
    (raised_ends (counting_from i c b) y t))
    (λ r. inr (record { candidate = contains_behind (counting_from i c b) (filter_map (counting_from i c) bs) _ r.candidate; low = r.low }))
    (moved_ends i c bs y (raised_to (counting_from i c b) y t))

-- a bid that is counted after the move was counted before it
new_below : (i c : ℕ) (bs : List Bid) (y : ℤ) (b : Bid) (o : Option ℤ) → In b bs → lead_of b c i ≡ o → is_below o (moved_at i c bs y) ≡ true → is_below o y ≡ true
new_below i c bs y b None k e h = refl
new_below i c bs y b (Some v) k e h =
    let l = lowest_bound i c bs b v k e in
    let m : v <ℤ moved_at i c bs y = grind (arith, ints) in
    let r : v <ℤ y = ⊎_elim (λ q. absurd (omega (arith, ints))) (λ q. let w = q.low in omega (arith, ints)) (moved_ends i c bs y (lowest i c bs)) in
    grind (arith, ints)

-- the candidate of a bid of negative weight
pub counting_at : (i c : ℕ) (b : Bid) (v : ℤ) → int_lt b.weight (pos 0) ≡ true → lead_of b c i ≡ Some v → counting_from i c b ≡ Some (v +ℤ pos 1)
counting_at i c b v n e = ap (λ z. option_map (λ v. v +ℤ pos 1) (cond z (lead_of b c i) None)) n ∙ ap (option_map (λ v. v +ℤ pos 1)) e

-- a bid of negative weight that was counted stays counted
old_below : (i c : ℕ) (bs : List Bid) (y : ℤ) (b : Bid) (o : Option ℤ) → In b bs → int_lt b.weight (pos 0) ≡ true → lead_of b c i ≡ o → is_below o y ≡ true → is_below o (moved_at i c bs y) ≡ true
old_below i c bs y b None k n e h = refl
old_below i c bs y b (Some v) k n e h =
    let l : v <ℤ y = grind (arith, ints) in
    let r = moved_reaches i c bs y (lowest i c bs) b (v +ℤ pos 1) k (counting_at i c b v n e) (omega (arith, ints)) in
    let m : v <ℤ moved_at i c bs y = omega (arith, ints) in
    grind (arith, ints)

-- ---- all coordinates at once

-- the point moved to the grid
abbrev pub moved : ℕ → List Bid → Vector → Vector
moved i bs u = λ c. moved_at i c bs (u c)

beside : (b p q : Bool) → (p ≡ true → q ≡ true) → cond b true p ≡ true → cond b true q ≡ true
beside true p q h e = refl
beside false p q h e = h e

new_counted : (n i j : ℕ) (bs : List Bid) (u : Vector) (b : Bid) → In b bs → is_counted n i j (moved i bs u) b ≡ true → is_counted n i j u b ≡ true
new_counted n i j bs u b k h = all_to-intro (suc n) _ (λ c l.
    beside (pair i j c) (is_below (lead_of b c i) (moved_at i c bs (u c))) (is_below (lead_of b c i) (u c)) (new_below i c bs (u c) b (lead_of b c i) k refl)
    (all_to-true (suc n) (λ c. cond (pair i j c) true (is_below (lead_of b c i) (moved_at i c bs (u c)))) h c l))

old_counted : (n i j : ℕ) (bs : List Bid) (u : Vector) (b : Bid) → In b bs → int_lt b.weight (pos 0) ≡ true → is_counted n i j u b ≡ true → is_counted n i j (moved i bs u) b ≡ true
old_counted n i j bs u b k w h = all_to-intro (suc n) _ (λ c l.
    beside (pair i j c) (is_below (lead_of b c i) (u c)) (is_below (lead_of b c i) (moved_at i c bs (u c))) (old_below i c bs (u c) b (lead_of b c i) k w refl)
    (all_to-true (suc n) (λ c. cond (pair i j c) true (is_below (lead_of b c i) (u c))) h c l))

-- a bid's part of the weight, where it may be left out only if it is positive
weight_less : (w : ℤ) (p q : Bool) → (p ≡ true → q ≡ true) → (int_lt w (pos 0) ≡ true → q ≡ true → p ≡ true) → cond p w (pos 0) ≤ℤ cond q w (pos 0)
weight_less w true true f g = omega (arith, ints)
weight_less w false false f g = omega (arith, ints)
weight_less w true false f g = absurd (false≢true (f refl))
weight_less w false true f g = by_lt_z w (pos 0) (λ l. absurd (false≢true (g (grind (arith, ints)) refl))) (λ l. omega (arith, ints))

part_less : (n i j : ℕ) (bs : List Bid) (u : Vector) (rest : List Bid) → ((b : Bid) → In b rest → In b bs) → weight_counted n i j rest (moved i bs u) ≤ℤ weight_counted n i j rest u
part_less n i j bs u [] h = omega (arith, ints)
part_less n i j bs u (b ∷ rest) h =
    let p = weight_less b.weight (is_counted n i j (moved i bs u) b) (is_counted n i j u b) (new_counted n i j bs u b (h b (inl refl))) (old_counted n i j bs u b (h b (inl refl))) in
    let q = part_less n i j bs u rest (λ a k. h a (inr k)) in
    omega (arith, ints)

-- the weight at the moved point is no greater
pub moved_less : (n i j : ℕ) (bs : List Bid) (u : Vector) → weight_counted n i j bs (moved i bs u) ≤ℤ weight_counted n i j bs u
moved_less n i j bs u = part_less n i j bs u bs (λ b k. k)

-- ---- the moved point is on the grid

-- a good's coordinate is a candidate
pub moved_good : (i c : ℕ) (bs : List Bid) (y : ℤ) → c ≢ 0 → Contains (candidates i c bs) (moved_at i c bs y)
moved_good i c bs y h = ⊎_elim
    (λ e. Contains-append_right (filter_map (counting_from i c) bs) (cond (eqb c 0) [] (lowest i c bs ∷ [])) _ (last (eqb c 0) (let t : eqb c 0 ≡ false = grind (arith, nat_tests) in t) (sym e)))
    (λ r. Contains-append_left (filter_map (counting_from i c) bs) (cond (eqb c 0) [] (lowest i c bs ∷ [])) _ r.candidate)
    (moved_ends i c bs y (lowest i c bs))
  where
    last : (t : Bool) → t ≡ false → lowest i c bs ≡ moved_at i c bs y → Contains (cond t [] (lowest i c bs ∷ [])) (moved_at i c bs y)
    last true f e = absurd (false≢true (sym f))
    last false f e = contains_first [] (lowest i c bs) (moved_at i c bs y) e

-- so is any coordinate below which a bid of negative weight leads
pub moved_counted : (i c : ℕ) (bs : List Bid) (y : ℤ) (b : Bid) (v : ℤ) → In b bs → int_lt b.weight (pos 0) ≡ true → lead_of b c i ≡ Some v → v <ℤ y → Contains (candidates i c bs) (moved_at i c bs y)
moved_counted i c bs y b v k n e l = ⊎_elim
    (λ q. let r = moved_reaches i c bs y (lowest i c bs) b (v +ℤ pos 1) k (counting_at i c b v n e) (omega (arith, ints)) in
    let m = lowest_bound i c bs b v k e in
    absurd (omega (arith, ints)))
    (λ r. Contains-append_left (filter_map (counting_from i c) bs) (cond (eqb c 0) [] (lowest i c bs ∷ [])) _ r.candidate)
    (moved_ends i c bs y (lowest i c bs))

-- where the weight is negative, some bid of negative weight is counted
pub record SomeNegative (n i j : ℕ) (bs : List Bid) (u : Vector) : Type 0 where
  pub bid : Bid
  pub member : In bid bs
  pub negative : int_lt bid.weight (pos 0) ≡ true
  pub counted : is_counted n i j u bid ≡ true

pub some_negative : (n i j : ℕ) (bs : List Bid) (u : Vector) → weight_counted n i j bs u <ℤ pos 0 → SomeNegative n i j bs u
some_negative n i j [] u h = absurd (omega (arith, ints))
some_negative n i j (b ∷ bs) u h = at (is_counted n i j u b) refl (λ l. let r = some_negative n i j bs u l in record { bid = r.bid; member = inr r.member; negative = r.negative; counted = r.counted }) h
  where
    at : (t : Bool) → is_counted n i j u b ≡ t → (weight_counted n i j bs u <ℤ pos 0 → SomeNegative n i j (b ∷ bs) u) → (cond t b.weight (pos 0) +ℤ weight_counted n i j bs u) <ℤ pos 0 → SomeNegative n i j (b ∷ bs) u
    at true e f l = by_lt_z b.weight (pos 0)
        (λ w. record { bid = b; member = inl refl; negative = grind (arith, ints); counted = e })
        (λ w. f (omega (arith, ints)))
    at false e f l = f (omega (arith, ints))
