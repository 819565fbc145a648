-- A list over at most 5 goods with at most 12 bids of negative weight has at most 4,194,304 cells: few in fact, since the levels of two
-- choices share the negative bids.
use Rattle.std.proofs.Common.{◌≡◌, ◌≢◌, ℕ, zero, suc, ◌+◌, ◌-◌, ◌*◌, ◌<◌, ◌≤◌, Bool, true, false, cond, List, [], ◌∷◌, ℤ, pos, Option, Some, None, length, refl, arith, sym, ap, ◌∙◌, int_eq, int_lt, filter_map, true≢false, ◌||◌, eqb}
use Rattle.std.specs.Prelude.{count_by}
use Rattle.std.specs.List.{cons_option, sum_by}
use Rattle.std.proofs.lemmas.List.Sums.{count_by-le-length, sum_by-cons, sum_by-le-sum_by}
use Rattle.std.proofs.lemmas.Map.Made.{distinct_count-le}
use Rattle.std.proofs.lemmas.Nat.{mul-le}
use Rattle.mix_num.proofs.Equalities.{int_eq_is}
use Rattle.mix_bids.specs.Bids.{Book}
use Rattle.mix_bids.specs.Cells.{sum_below, product_below, level_leads, factor, level_cells, pair_cells, cells}
use Rattle.mix_bids.specs.Counted.{is_among}
use Rattle.mix_bids.specs.Leads.{lead_of, negative_lead}
use Rattle.mix_bids.specs.Levels.{differences, has_lead, is_lead, level_bids, other}
use Rattle.mix_bids.specs.declared.bid.Bid.{Bid}
use Rattle.mix_bids.proofs.Cases.{by_test}
use Rattle.mix_bids.proofs.Uniques.{int_eq_swap, sum_changed, sum_step, uniques}
use Rattle.mix_text.specs.Reading.{is_negative}

-- ---- how often a number is in a list

abbrev one_if : ℤ → ℤ → ℕ
one_if d u = cond (int_eq d u) 1 0

abbrev times : ℤ → List ℤ → ℕ
times d us = sum_by (one_if d) us

never : (d : ℤ) (us : List ℤ) → is_among us d ≡ false → times d us ≡ 0
never d [] h = refl
never d (u ∷ us) h =
    let step = sum_by-cons (one_if d) u us in
    by_test (int_eq d u)
    (λ e. absurd (true≢false (sym (ap (λ z. z || is_among us d) e) ∙ h)))
    (λ e. let r = never d us (sym (ap (λ z. z || is_among us d) e) ∙ h) in let one = ap (λ z. cond {A = ℕ} z 1 0) e in omega (arith, step, r, one))

-- one, and 2,380 for each time that the number is there
abbrev charge : List ℤ → ℤ → ℕ
charge us d = 1 + 2380 * times d us

-- the charges of the different numbers of a list, where each of its numbers has its own one
charges : (us : List ℤ) → sum_by (charge us) (uniques us) ≤ 2381 * length us
charges [] = omega arith
charges (w ∷ us) =
    let f = charge us in
    let g = charge (w ∷ us) in
    let first = sum_step g w us in
    let changed = sum_changed f g w us (λ u k. other_number u k) in
    let before = charges us in
    let here : g w ≡ f w + 2380 = let e = sum_by-cons (one_if w) w us in let one = ap (λ z. cond {A = ℕ} z 1 0) ((int_eq_is w w).1 refl) in omega (arith, e, one) in
    by_test (is_among us w)
    (λ h.
    (let first = first ∙ ap (λ z. cond z 0 (g w) + sum_by g (uniques us)) h in
    let changed = sym (ap (λ z. sum_by g (uniques us) + cond z (f w) 0) h) ∙ changed ∙ ap (λ z. sum_by f (uniques us) + cond z (g w) 0) h in
    omega (arith, first, changed, before, here)))
    (λ h.
    (let first = first ∙ ap (λ z. cond z 0 (g w) + sum_by g (uniques us)) h in
    let changed = sym (ap (λ z. sum_by g (uniques us) + cond z (f w) 0) h) ∙ changed ∙ ap (λ z. sum_by f (uniques us) + cond z (g w) 0) h in
    let none = never w us h in
    omega (arith, first, changed, before, here, none)))
  where
    other_number : (u : ℤ) → u ≢ w → charge us u ≡ charge (w ∷ us) u
    other_number u k =
        let e = sum_by-cons (one_if u) w us in
        by_test (int_eq u w) (λ t. absurd (k ((int_eq_is u w).0 t))) (λ t. let one = ap (λ z. cond {A = ℕ} z 1 0) t in omega (arith, e, one))

-- ---- the leads of a level

option_length : (o : Option ℤ) (us : List ℤ) → length (cons_option o us) ≡ length (cons_option o []) + length us
option_length None us = omega arith
option_length (Some u) us = omega arith

-- a level has no more leads of a choice than it has bids of negative weight
leads_few : (i j : ℕ) (d : ℤ) (c : ℕ) (bs : List Bid) → length (level_leads i j d c bs) ≤ times d (differences i j bs)
leads_few i j d c [] = omega arith
leads_few i j d c (b ∷ bs) =
    let e = taken (has_lead i j d b) (level_bids i j d bs) in
    let o = one (lead_of b i j) (int_lt b.weight (pos 0)) (lead_of b c i) (differences i j bs) _ (leads_few i j d c bs) in
    omega (arith, e, o)
  where
    taken : (h : Bool) (rest : List Bid) → length (filter_map (λ b. negative_lead b c i) (cond h (b ∷ rest) rest)) ≡ cond h (length (cons_option (negative_lead b c i) [])) 0 + length (filter_map (λ b. negative_lead b c i) rest)
    taken true rest = option_length (negative_lead b c i) (filter_map (λ b. negative_lead b c i) rest)
    taken false rest = omega arith

    one : (o : Option ℤ) (t : Bool) (r : Option ℤ) (ds : List ℤ) (n : ℕ) → n ≤ times d ds → cond (is_lead o d) (length (cons_option (cond t r None) [])) 0 + n ≤ times d (cons_option (cond t o None) ds)
    one None true r ds n h = omega (arith, h)
    one None false r ds n h = omega (arith, h)
    one (Some v) false r ds n h = by_test (int_eq v d)
        (λ e. let q = ap (λ z. cond {A = ℕ} z 0 0) e in omega (arith, q, h))
        (λ e. let q = ap (λ z. cond {A = ℕ} z 0 0) e in omega (arith, q, h))
    one (Some v) true None ds n h =
        let s = sum_by-cons (one_if d) v ds in
        by_test (int_eq v d)
        (λ e. let q = ap (λ z. cond {A = ℕ} z 0 0) e in omega (arith, q, h, s))
        (λ e. let q = ap (λ z. cond {A = ℕ} z 0 0) e in omega (arith, q, h, s))
    one (Some v) true (Some u) ds n h =
        let s = sum_by-cons (one_if d) v ds in
        let q = ap (λ z. cond {A = ℕ} z 1 0) (int_eq_swap v d) in
        omega (arith, q, h, s)

factor_few : (i j : ℕ) (d : ℤ) (bs : List Bid) (c : ℕ) → factor i j d bs c ≤ suc (times d (differences i j bs))
unfolding factor
factor_few i j d bs c =
    let most = distinct_count-le int_eq (level_leads i j d c bs) in
    let leads = leads_few i j d c bs in
    let one = at_most_one (eqb c 0) in
    omega (arith, most, leads, one)
  where
    at_most_one : (t : Bool) → cond {A = ℕ} t 0 1 ≤ 1
    at_most_one true = omega arith
    at_most_one false = omega arith

-- ---- products of at most four factors

abbrev power : ℕ → ℕ → ℕ
power x zero = 1
power x (suc k) = power x k * x

product_few : (m k : ℕ) (f : ℕ → ℕ) → ((c : ℕ) → f c ≤ m) → product_below k f ≤ power m k
unfolding product_below
product_few m zero f h = omega arith
product_few m (suc k) f h = mul-le _ _ _ _ (product_few m k f h) (h k)

-- the fourth power of one more than m lies on or below the line from m = 0 to m = 12
fourth : (m : ℕ) → m ≤ 12 → power (suc m) 4 ≤ 1 + 2380 * m
fourth m h =
    let square : m * m ≤ 12 * m = mul-le m m 12 m h (omega arith) in
    let twice : suc m * suc m ≤ 14 * m + 1 = omega (arith, square) in
    let whole = mul-le (suc m * suc m) (suc m * suc m) (14 * m + 1) (14 * m + 1) twice twice in
    omega (arith, whole, square)

powers : (m k : ℕ) → k ≤ 4 → power (suc m) k ≤ power (suc m) 4
powers m k h = rest (4 - k) k (omega (arith, h))
  where
    more : (a m : ℕ) → a ≤ a * suc m
    more a m = omega arith

    rest : (left k : ℕ) → k + left ≡ 4 → power (suc m) k ≤ power (suc m) 4
    rest zero k e = let four : k ≡ 4 = omega (arith, e) in let same = ap (power (suc m)) four in omega (arith, same)
    rest (suc left) k e = let a = rest left (suc k) (omega (arith, e)) in let b = more (power (suc m) k) m in omega (arith, a, b)

level_few : (n i j : ℕ) (bs : List Bid) (d : ℤ) → n ≤ 5 → times d (differences i j bs) ≤ 12 → level_cells n i j bs d ≤ charge (differences i j bs) d
unfolding level_cells
level_few n i j bs d g few =
    let m = times d (differences i j bs) in
    let product = product_few (suc m) (n - 1) (λ k. factor i j d bs (other i j k)) (λ k. factor_few i j d bs (other i j k)) in
    let p = powers m (n - 1) (omega (arith, g)) in
    let f = fourth m few in
    omega (arith, product, p, f)

-- ---- all levels of all pairs

differences_few : (i j : ℕ) (bs : List Bid) → length (differences i j bs) ≤ count_by is_negative bs
differences_few i j [] = omega arith
differences_few i j (b ∷ bs) =
    let s = sum_by-cons (λ b. cond (is_negative b) 1 0) b bs in
    let e = option_length (negative_lead b i j) (differences i j bs) in
    let o = one (int_lt b.weight (pos 0)) (lead_of b i j) in
    let r = differences_few i j bs in
    omega (arith, s, e, o, r)
  where
    one : (t : Bool) (o : Option ℤ) → length (cons_option (cond t o None) []) ≤ cond t 1 0
    one true None = omega arith
    one true (Some v) = omega arith
    one false o = omega arith

pair_few : (n i j : ℕ) (bs : List Bid) → n ≤ 5 → count_by is_negative bs ≤ 12 → pair_cells n bs i j ≤ 28572
unfolding pair_cells
pair_few n i j bs g few =
    let ds = differences i j bs in
    let size = differences_few i j bs in
    let levels = sum_by-le-sum_by (level_cells n i j bs) (charge ds) (uniques ds) (λ d. (let most = count_by-le-length (int_eq d) ds in level_few n i j bs d g (omega (arith, most, size, few)))) in
    let all = charges ds in
    omega (arith, levels, all, size, few)

sum_few : (m most : ℕ) (f : ℕ → ℕ) → ((k : ℕ) → k < m → f k ≤ most) → sum_below m f ≤ m * most
unfolding sum_below
sum_few zero most f h = omega arith
sum_few (suc m) most f h = let a = sum_few m most f (λ k l. h k (omega (arith, l))) in let b = h m (omega arith) in omega (arith, a, b)

pub few_cells : (book : Book) → book.goods ≤ 5 → count_by is_negative book.bids ≤ 12 → cells book ≤ 4194304
unfolding cells
few_cells book g few =
    let n = book.goods in
    let each = sum_few (suc n) 142860 (λ j. sum_below j (λ i. pair_cells n book.bids i j)) (λ j l. (let inner = sum_few j 28572 (λ i. pair_cells n book.bids i j) (λ i k. pair_few n i j book.bids g few) in omega (arith, inner, l, g))) in
    omega (arith, each, g)
