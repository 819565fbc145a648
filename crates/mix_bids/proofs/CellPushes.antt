-- How the number of cells changes when a bid comes at the end of a list.
use Rattle.std.proofs.Common.{◌≡◌, ◌≢◌, ℕ, zero, suc, ◌+◌, ◌-◌, ◌*◌, ◌≤◌, ◌<◌, Bool, true, false, cond, List, [], ◌∷◌, ◌++◌, ℤ, pos, Option, Some, None, refl, arith, sym, ap, ap₂, ◌∙◌, int_eq, int_lt, filter_map}
use Rattle.std.specs.List.{cons_option, sum_by}
use Rattle.std.specs.Set.{distinct_count}
use Rattle.std.proofs.lemmas.List.Elements.{filter-append, filter_map-append}
use Rattle.std.proofs.lemmas.List.{append-nil}
use Rattle.std.proofs.lemmas.Nat.{mul-le}
use Rattle.mix_num.proofs.Equalities.{int_eq_is}
use Rattle.mix_bids.specs.Bids.{Book}
use Rattle.mix_bids.specs.Leads.{lead_of, negative_lead}
use Rattle.mix_bids.specs.Levels.{is_lead, has_lead, level_bids, differences, other}
use Rattle.mix_bids.specs.Cells.{sum_below, product_below, level_leads, factor, level_cells, pair_cells, cells}
use Rattle.mix_bids.specs.Counted.{growth, is_among, level_lead, new_in}
use Rattle.mix_bids.specs.declared.bid.Bid.{Bid}
use Rattle.mix_bids.proofs.Cases.{by_test}
use Rattle.mix_bids.proofs.Uniques.{uniques, sum_changed, sum_push, distinct_push}

-- one more at the end, if there is one
abbrev pub with_option : List ℤ → Option ℤ → List ℤ
with_option us None = us
with_option us (Some u) = us ++ u ∷ []

-- ---- differences and leads

pub differences_push : (i j : ℕ) (bs : List Bid) (b : Bid) → differences i j (bs ++ b ∷ []) ≡ with_option (differences i j bs) (negative_lead b i j)
differences_push i j bs b = filter_map-append (λ b. negative_lead b i j) bs (b ∷ []) ∙ last (differences i j bs) (negative_lead b i j)
  where
    last : (us : List ℤ) (o : Option ℤ) → us ++ filter_map (λ o. o) (o ∷ []) ≡ with_option us o
    last us None = append-nil us
    last us (Some u) = refl

pub leads_push : (i j : ℕ) (d : ℤ) (c : ℕ) (bs : List Bid) (b : Bid) → level_leads i j d c (bs ++ b ∷ []) ≡ with_option (level_leads i j d c bs) (level_lead i j d c b)
leads_push i j d c bs b =
    ap (filter_map (λ b. negative_lead b c i)) (filter-append (has_lead i j d) bs (b ∷ []))
    ∙ filter_map-append (λ b. negative_lead b c i) (level_bids i j d bs) (level_bids i j d (b ∷ []))
    ∙ last (level_leads i j d c bs) (has_lead i j d b) (negative_lead b c i) b refl
  where
    last : (us : List ℤ) (t : Bool) (o : Option ℤ) (b : Bid) → negative_lead b c i ≡ o → us ++ filter_map (λ b. negative_lead b c i) (cond t (b ∷ []) []) ≡ with_option us (cond t o None)
    last us false o b e = append-nil us
    last us true None b e = ap (λ o. us ++ cons_option o []) e ∙ append-nil us
    last us true (Some u) b e = ap (λ o. us ++ cons_option o []) e

-- a bid that isn't one of negative weight with the difference d adds nothing to the leads of that level
pub no_lead : (i j : ℕ) (d : ℤ) (c : ℕ) (b : Bid) → negative_lead b i j ≢ Some d → level_lead i j d c b ≡ None
no_lead i j d c b h = at (lead_of b i j) (int_lt b.weight (pos 0)) (lead_of b c i) h
  where
    none : (t : Bool) → cond {A = Option ℤ} t None None ≡ None
    none true = refl
    none false = refl

    at : (o : Option ℤ) (t : Bool) (r : Option ℤ) → cond t o None ≢ Some d → cond (is_lead o d) (cond t r None) None ≡ None
    at None t r h = refl
    at (Some v) false r h = none (int_eq v d)
    at (Some v) true r h = by_test (int_eq v d) (λ e. absurd (h (ap Some ((int_eq_is v d).0 e)))) (λ e. ap (λ z. cond z r None) e)

-- ---- factors, levels and pairs

pub distinct_with : (us : List ℤ) (o : Option ℤ) → distinct_count int_eq (with_option us o) ≡ distinct_count int_eq us + new_in us o
distinct_with us None = omega arith
distinct_with us (Some u) = distinct_push us u

pub factor_push : (i j : ℕ) (d : ℤ) (bs : List Bid) (b : Bid) (c : ℕ) → factor i j d (bs ++ b ∷ []) c ≡ factor i j d bs c + new_in (level_leads i j d c bs) (level_lead i j d c b)
unfolding factor
factor_push i j d bs b c =
    let e = ap (distinct_count int_eq) (leads_push i j d c bs b) ∙ distinct_with (level_leads i j d c bs) (level_lead i j d c b) in
    omega (arith, e)

pub product_le : (m : ℕ) (f g : ℕ → ℕ) → ((c : ℕ) → c < m → f c ≤ g c) → product_below m f ≤ product_below m g
unfolding product_below
product_le zero f g h = omega arith
product_le (suc m) f g h = mul-le _ _ _ _ (product_le m f g (λ c l. h c (omega arith))) (h m (omega arith))

pub product_same : (m : ℕ) (f g : ℕ → ℕ) → ((c : ℕ) → c < m → f c ≡ g c) → product_below m f ≡ product_below m g
unfolding product_below
product_same zero f g h = refl
product_same (suc m) f g h = ap₂ (λ x y. x * y) (product_same m f g (λ c l. h c (omega arith))) (h m (omega arith))

pub level_rises : (n i j : ℕ) (bs : List Bid) (b : Bid) (d : ℤ) → level_cells n i j bs d ≤ level_cells n i j (bs ++ b ∷ []) d
unfolding level_cells
level_rises n i j bs b d = product_le (n - 1) _ _ (λ k l. let e = factor_push i j d bs b (other i j k) in omega (arith, e))

pub level_stays : (n i j : ℕ) (bs : List Bid) (b : Bid) (d : ℤ) → negative_lead b i j ≢ Some d → level_cells n i j bs d ≡ level_cells n i j (bs ++ b ∷ []) d
unfolding level_cells
level_stays n i j bs b d h = product_same (n - 1) _ _ (λ k l.
    let c = other i j k in
    let e = factor_push i j d bs b c in
    let z = ap (new_in (level_leads i j d c bs)) (no_lead i j d c b h) in
    omega (arith, e, z))

-- a bid that offers the two choices and is of negative weight changes the cells of its level, from none where the level is new
pub pair_grows : (n i j : ℕ) (bs : List Bid) (b : Bid) (d : ℤ) → negative_lead b i j ≡ Some d →
    pair_cells n (bs ++ b ∷ []) i j + cond (is_among (differences i j bs) d) (level_cells n i j bs d) 0 ≡ pair_cells n bs i j + level_cells n i j (bs ++ b ∷ []) d
unfolding pair_cells
pair_grows n i j bs b d h =
    let f = level_cells n i j bs in
    let g = level_cells n i j (bs ++ b ∷ []) in
    let ds = differences i j bs in
    let e = ap (λ us. sum_by g (uniques us)) (differences_push i j bs b ∙ ap (with_option ds) h) ∙ sum_push g ds d in
    let s = sum_changed f g d ds (λ u k. level_stays n i j bs b u (λ q. k (same u d (sym q ∙ h)))) in
    total (is_among ds d) _ _ _ (f d) (g d) e s
  where
    same : (u d : ℤ) → Some u ≡ Some d → u ≡ d
    same u d e = cc

    total : (t : Bool) (new held old p q : ℕ) → new ≡ held + cond t 0 q → held + cond t p 0 ≡ old + cond t q 0 → new + cond t p 0 ≡ old + q
    total true new held old p q e s = omega (arith, e, s)
    total false new held old p q e s = omega (arith, e, s)

-- any other bid changes nothing
pub pair_stays : (n i j : ℕ) (bs : List Bid) (b : Bid) → negative_lead b i j ≡ None → pair_cells n (bs ++ b ∷ []) i j ≡ pair_cells n bs i j
unfolding pair_cells
pair_stays n i j bs b h =
    let f = level_cells n i j bs in
    let g = level_cells n i j (bs ++ b ∷ []) in
    let ds = differences i j bs in
    let stays : (u : ℤ) → f u ≡ g u = λ u. level_stays n i j bs b u (λ q. other u (sym h ∙ q)) in
    let s = sum_changed f g (pos 0) ds (λ u k. stays u) in
    ap (λ us. sum_by g (uniques us)) (differences_push i j bs b ∙ ap (with_option ds) h)
    ∙ total (is_among ds (pos 0)) _ _ (f (pos 0)) (g (pos 0)) (stays (pos 0)) s
  where
    other : (u : ℤ) → None ≢ Some u
    other u e = cc

    total : (t : Bool) (held old p q : ℕ) → p ≡ q → held + cond t p 0 ≡ old + cond t q 0 → held ≡ old
    total true held old p q e s = omega (arith, e, s)
    total false held old p q e s = omega (arith, e, s)

pub pair_rises : (n i j : ℕ) (bs : List Bid) (b : Bid) → pair_cells n bs i j ≤ pair_cells n (bs ++ b ∷ []) i j
pair_rises n i j bs b = at (negative_lead b i j) refl
  where
    rest : (t : Bool) (new old p q : ℕ) → p ≤ q → new + cond t p 0 ≡ old + q → old ≤ new
    rest true new old p q h e = omega (arith, e, h)
    rest false new old p q h e = omega (arith, e, h)

    at : (o : Option ℤ) → negative_lead b i j ≡ o → pair_cells n bs i j ≤ pair_cells n (bs ++ b ∷ []) i j
    at None e = let s = pair_stays n i j bs b e in omega (arith, s)
    at (Some d) e = rest (is_among (differences i j bs) d) _ _ _ _ (level_rises n i j bs b d) (pair_grows n i j bs b d e)

-- ---- all pairs

pub sum_le : (m : ℕ) (f g : ℕ → ℕ) → ((k : ℕ) → k < m → f k ≤ g k) → sum_below m f ≤ sum_below m g
unfolding sum_below
sum_le zero f g h = omega arith
sum_le (suc m) f g h = let a = sum_le m f g (λ k l. h k (omega arith)) in let b = h m (omega arith) in omega (arith, a, b)

-- the number of cells never falls when a bid comes
pub cells_rise : (book : Book) (b : Bid) → cells book ≤ cells (record book { bids = book.bids ++ b ∷ [] })
unfolding cells
cells_rise book b = sum_le (suc book.goods) _ _ (λ j l. sum_le j _ _ (λ i k. pair_rises book.goods i j book.bids b))

-- no bids have no cells
pub cells_none : (n : ℕ) → cells (record { goods = n; bids = [] }) ≡ 0
unfolding cells pair_cells sum_below
cells_none n = zeros (suc n) _ (λ j. zeros j _ (λ i. refl))
  where
    zeros : (m : ℕ) (f : ℕ → ℕ) → ((k : ℕ) → f k ≡ 0) → sum_below m f ≡ 0
    zeros zero f h = refl
    zeros (suc m) f h = let a = zeros m f h in let b = h m in omega (arith, a, b)

sum_more : (m : ℕ) (f g : ℕ → ℕ) → ((k : ℕ) → k < m → f k ≤ g k) → sum_below m g ≡ sum_below m f + sum_below m (λ k. g k - f k)
unfolding sum_below
sum_more zero f g h = refl
sum_more (suc m) f g h = let a = sum_more m f g (λ k l. h k (omega arith)) in let b = h m (omega arith) in omega (arith, a, b)

sum_same : (m : ℕ) (f g : ℕ → ℕ) → ((k : ℕ) → k < m → f k ≡ g k) → sum_below m f ≡ sum_below m g
unfolding sum_below
sum_same zero f g h = refl
sum_same (suc m) f g h = ap₂ (λ x y. x + y) (sum_same m f g (λ k l. h k (omega arith))) (h m (omega arith))

-- the number of cells grows by the growths of all pairs
pub cells_grow : (n : ℕ) (bs : List Bid) (b : Bid) → cells (record { goods = n; bids = bs ++ b ∷ [] }) ≡ cells (record { goods = n; bids = bs }) + sum_below (suc n) (λ j. sum_below j (λ i. growth n bs b i j))
unfolding cells growth
cells_grow n bs b =
    sum_more (suc n) _ _ (λ j l. sum_le j _ _ (λ i k. pair_rises n i j bs b))
    ∙ ap (λ z. cells (record { goods = n; bids = bs }) + z) (sum_same (suc n) _ _ (λ j l.
    let e = sum_more j (λ i. pair_cells n bs i j) (λ i. pair_cells n (bs ++ b ∷ []) i j) (λ i k. pair_rises n i j bs b) in omega (arith, e)))

-- a bid of positive weight adds none
pub cells_stay : (n : ℕ) (bs : List Bid) (b : Bid) → int_lt b.weight (pos 0) ≡ false → cells (record { goods = n; bids = bs ++ b ∷ [] }) ≡ cells (record { goods = n; bids = bs })
unfolding cells
cells_stay n bs b h = sum_same (suc n) _ _ (λ j l. sum_same j _ _ (λ i k. pair_stays n i j bs b (ap (λ t. cond t (lead_of b i j) None) h)))

-- a product, its first factor apart
pub product_front : (m : ℕ) (f : ℕ → ℕ) → product_below (suc m) f ≡ f 0 * product_below m (λ k. f (suc k))
unfolding product_below
product_front zero f = omega arith
product_front (suc m) f = ap (λ z. z * f (suc m)) (product_front m f) ∙ mul_assoc (f 0) (product_below m (λ k. f (suc k))) (f (suc m))
  where
    mul_assoc : (a b c : ℕ) → (a * b) * c ≡ a * (b * c)
    mul_assoc a b c = omega arith
