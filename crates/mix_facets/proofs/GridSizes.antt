-- The sizes of the grids of a list add up to its number of cells.
use Rattle.std.proofs.Common.{◌≡◌, ◌≢◌, ℕ, zero, suc, ◌+◌, ◌-◌, ◌*◌, ◌≤◌, ◌<◌, inl, inr, ⊎_elim, eq-or-lt_of_le, Bool, true, false, cond, eqb, ◌||◌, List, [], ◌∷◌, ◌++◌, ℤ, pos, ◌+ℤ◌, Option, Some, None, int_lt, int_eq, length, get_or, map, filter_map, option_map, refl, arith, sym, ap, ap₂, ◌∙◌, subst, Contains, AllPairs}
use Rattle.std.proofs.lemmas.Int.{ints}
use Rattle.std.specs.List.{cons_option, sum_by}
use Rattle.std.specs.Set.{distinct_count}
use Rattle.std.proofs.lemmas.List.{append-nil, get_or-map, get_or_default, length-map}
use Rattle.std.proofs.lemmas.List.Sums.{sum_by-cons}
use Rattle.mix_num.proofs.Equalities.{int_eq_is}
use Rattle.mix_bids.specs.Bids.{Book}
use Rattle.mix_bids.specs.Leads.{lead_of, negative_lead}
use Rattle.mix_bids.specs.Levels.{differences, other}
use Rattle.mix_bids.specs.Cells.{cells, factor, level_cells, pair_cells, product_below, sum_below}
use Rattle.mix_bids.specs.Counted.{is_among}
use Rattle.mix_bids.specs.declared.bid.Bid.{Bid}
use Rattle.mix_bids.proofs.Cases.{not_true}
use Rattle.mix_bids.proofs.Uniques.{distinct_push}
use Rattle.mix_bids.proofs.CellPushes.{product_front, product_same}
use Rattle.mix_bids.proofs.SameNumbers.{among_from, distinct_map, distinct_same_numbers, same_among, sum_same_numbers, sum_without, uniques_distinct}
use Rattle.mix_facets.specs.Levels.{Level, bids_of, level_at, AreLevelsOf, IsLevelOf}
use Rattle.mix_facets.specs.Candidates.{candidates, counting_from, lowest}
use Rattle.mix_facets.specs.Grids.{size_of, AreCandidates, IsGridOf}
use Rattle.mix_facets.specs.Totals.{total_size, AreGridsOf}
use Rattle.mix_facets.proofs.Members.{In}
use Rattle.mix_facets.proofs.Moves.{lowest_bound}

-- ---- how many candidates there are

-- the coordinates from which on bids are counted are the leads and one
images : (i c : ℕ) (bs : List Bid) → filter_map (counting_from i c) bs ≡ map (λ v. v +ℤ pos 1) (filter_map (λ b. negative_lead b c i) bs)
images i c [] = refl
images i c (b ∷ bs) = at (negative_lead b c i) (images i c bs)
  where
    at : (o : Option ℤ) → filter_map (counting_from i c) bs ≡ map (λ v. v +ℤ pos 1) (filter_map (λ b. negative_lead b c i) bs) → cons_option (option_map (λ v. v +ℤ pos 1) o) (filter_map (counting_from i c) bs) ≡ map (λ v. v +ℤ pos 1) (cons_option o (filter_map (λ b. negative_lead b c i) bs))
    at None r = r
    at (Some v) r = ap (λ z. (v +ℤ pos 1) ∷ z) r

none_among : (h : Bid → Option ℤ) (bs : List Bid) (u : ℤ) → ((b : Bid) → In b bs → h b ≢ Some u) → is_among (filter_map h bs) u ≡ false
none_among h [] u f = refl
none_among h (b ∷ bs) u f = at (h b) (f b (inl refl)) (none_among h bs u (λ a k. f a (inr k)))
  where
    at : (o : Option ℤ) → o ≢ Some u → is_among (filter_map h bs) u ≡ false → is_among (cons_option o (filter_map h bs)) u ≡ false
    at None g r = r
    at (Some v) g r = ap (λ z. z || is_among (filter_map h bs) u) (not_true (int_eq u v) (λ e. g (ap Some (sym ((int_eq_is u v).0 e))))) ∙ r

-- no bid begins to be counted at the lowest coordinate
lowest_apart : (i c : ℕ) (bs : List Bid) (b : Bid) → In b bs → counting_from i c b ≢ Some (lowest i c bs)
lowest_apart i c bs b h = at (int_lt b.weight (pos 0)) (lead_of b c i) refl
  where
    at : (t : Bool) (o : Option ℤ) → lead_of b c i ≡ o → option_map (λ v. v +ℤ pos 1) (cond t o None) ≢ Some (lowest i c bs)
    at false o e q = absurd (cc)
    at true None e q = absurd (cc)
    at true (Some v) e q =
        let l = lowest_bound i c bs b v h e in
        let s : v +ℤ pos 1 ≡ lowest i c bs = cc in
        omega (arith, ints)

distinct_candidates : (i c : ℕ) (bs : List Bid) → distinct_count int_eq (candidates i c bs) ≡ cond (eqb c 0) 0 1 + distinct_count int_eq (filter_map (λ b. negative_lead b c i) bs)
distinct_candidates i c bs = at (eqb c 0)
  where
    front : List ℤ
    front = filter_map (counting_from i c) bs

    leads : List ℤ
    leads = filter_map (λ b. negative_lead b c i) bs

    as_leads : distinct_count int_eq front ≡ distinct_count int_eq leads
    as_leads = ap (distinct_count int_eq) (images i c bs) ∙ distinct_map (λ v. v +ℤ pos 1) (λ u v e. omega (arith, ints)) leads

    at : (t : Bool) → distinct_count int_eq (front ++ cond t [] (lowest i c bs ∷ [])) ≡ cond t 0 1 + distinct_count int_eq leads
    at true = let e = ap (distinct_count int_eq) (append-nil front) ∙ as_leads in omega (arith, e)
    at false =
        let e = distinct_push front (lowest i c bs) in
        let z = ap (λ t. let n : ℕ = cond t 0 1 in n) (none_among (counting_from i c) bs (lowest i c bs) (lowest_apart i c bs)) in
        omega (arith, e, z, as_leads)

-- the candidates of a choice are as many as its factor says
pub candidates_factor : (book : Book) (level : Level) (c : ℕ) (us : List ℤ) → AreCandidates book level c us → length us ≡ factor level.first level.second level.difference book.bids c
unfolding factor
candidates_factor book level c us are =
    let apart : AllPairs (λ u v. u ≢ v) us = λ k l d p q e. let r = are.rising k l d p q in omega (arith, ints) in
    sym (ap length (uniques_distinct us apart))
    ∙ distinct_same_numbers us (candidates level.first c (bids_of book level)) (same_among _ _ (λ u. (are.members u).0) (λ u. (are.members u).1))
    ∙ distinct_candidates level.first c (bids_of book level)

-- ---- one grid

size_product : (grid : List (List ℤ)) → size_of grid ≡ product_below (length grid) (λ k. length (get_or grid k []))
unfolding product_below
size_product [] = refl
size_product (us ∷ grid) = ap (λ z. length us * z) (size_product grid) ∙ sym (product_front (length grid) (λ k. length (get_or (us ∷ grid) k [])))

pub grid_cells : (book : Book) (level : Level) (grid : List (List ℤ)) → IsLevelOf book level → IsGridOf book level grid → size_of grid ≡ level_cells book.goods level.first level.second book.bids level.difference
unfolding level_cells
grid_cells book level grid is of =
    let size : length grid ≡ book.goods - 1 = let a = of.size in let b = is.goods in omega (arith, a, b) in
    size_product grid
    ∙ ap (λ m. product_below m (λ k. length (get_or grid k []))) size
    ∙ product_same (book.goods - 1) _ _ (λ k l. candidates_factor book level (other level.first level.second k) (get_or grid k []) (of.each k (omega (arith, size))))

-- ---- the grids of two choices

sum_pointwise : {X Y : Type 0} (f : X → ℕ) (g : Y → ℕ) (x : X) (y : Y) (xs : List X) (ys : List Y) → length xs ≡ length ys → ((k : ℕ) → k < length xs → f (get_or xs k x) ≡ g (get_or ys k y)) → sum_by f xs ≡ sum_by g ys
sum_pointwise f g x y [] [] e h = refl
sum_pointwise f g x y [] (b ∷ ys) e h = absurd (omega (arith, e))
sum_pointwise f g x y (a ∷ xs) [] e h = absurd (omega (arith, e))
sum_pointwise f g x y (a ∷ xs) (b ∷ ys) e h =
    sum_by-cons f a xs
    ∙ ap₂ (λ s t. s + t) (h zero (omega arith)) (sum_pointwise f g x y xs ys (omega (arith, e)) (λ k l. h (suc k) (omega arith)))
    ∙ sym (sum_by-cons g b ys)

pub pair_sizes : (book : Book) (i j : ℕ) (levels : List Level) (grids : List (List (List ℤ))) → AreLevelsOf book i j levels → length grids ≡ length levels → ((k : ℕ) (level : Level) → k < length levels → level ≡ get_or levels k level → IsGridOf book level (get_or grids k [])) → sum_by size_of grids ≡ pair_cells book.goods book.bids i j
unfolding pair_cells
pair_sizes book i j levels grids are size each =
    sum_pointwise size_of f [] (pos 0) grids ds (size ∙ sym count) (λ k l. let q = below k l in
    grid_cells book (at k) (get_or grids k []) (is k q).0 (each k (at k) q (sym (get_or_default levels k (at k) none q)))
    ∙ ap₂ (λ a b. level_cells book.goods a b book.bids (at k).difference) (is k q).1 (is k q).2
    ∙ ap f (sym (difference k q)))
    ∙ ap (sum_by f) (sym (uniques_distinct ds (λ k l d p q e. are.once k l none p (omega (arith, q, count))
    (sym (difference k (omega (arith, p, q, count))) ∙ get_or_default ds k (pos 0) d (omega (arith, p, q)) ∙ e ∙ get_or_default ds l d (pos 0) q ∙ difference l (omega (arith, q, count))))))
    ∙ sum_same_numbers f ds (differences i j book.bids) (same_among ds _ (λ u h. here u h) (λ u h. there u h))
  where
    f : ℤ → ℕ
    f = level_cells book.goods i j book.bids

    ds : List ℤ
    ds = map (λ level. level.difference) levels

    none : Level
    none = level_at book i j (pos 0)

    at : ℕ → Level
    at k = get_or levels k none

    count : length ds ≡ length levels
    count = length-map levels (λ level. level.difference)

    below : (k : ℕ) → k < length grids → k < length levels
    below k l = omega (arith, l, size)

    is : (k : ℕ) → k < length levels → IsLevelOf book (at k) × ((at k).first ≡ i) × ((at k).second ≡ j)
    is k l = are.each k none l

    difference : (k : ℕ) → k < length levels → get_or ds k (pos 0) ≡ (at k).difference
    difference k l = get_or-map (λ level. level.difference) levels k none (pos 0) l

    here : (u : ℤ) → Contains ds u → Contains (differences i j book.bids) u
    here u h =
        let l : h.0 < length levels = let m = h.1 in omega (arith, m, count) in
        let r = is h.0 l in
        let e : (at h.0).difference ≡ u = sym (difference h.0 l) ∙ get_or_default ds h.0 (pos 0) u h.1 ∙ h.2 in
        subst (λ (z : ℤ). Contains (differences i j book.bids) z) e
        (subst (λ (z : ℕ). Contains (differences i z book.bids) (at h.0).difference) r.2
        (subst (λ (z : ℕ). Contains (differences z (at h.0).second book.bids) (at h.0).difference) r.1 r.0.negative))

    there : (u : ℤ) → Contains (differences i j book.bids) u → Contains ds u
    there u h =
        let a = are.all u h in
        let l : a.0 < length ds = let m = a.2 in omega (arith, m, count) in
        (a.0, l, get_or_default ds a.0 u (pos 0) l ∙ difference a.0 a.2 ∙ ap (λ level. level.difference) (get_or_default levels a.0 none a.1 a.2 ∙ a.3) ∙ a.4)

-- ---- all grids

pair_parts : (m : ℕ) (f g : ℕ → ℕ) → ((k : ℕ) → k < m → f k ≡ g k) → sum_below m f ≡ sum_below m g
unfolding sum_below
pair_parts zero f g h = refl
pair_parts (suc m) f g h = ap₂ (λ x y. x + y) (pair_parts m f g (λ k l. h k (omega arith))) (h m (omega arith))

one_part : (m : ℕ) (f : ℕ → ℕ) (k : ℕ) → k < m → f k ≤ sum_below m f
unfolding sum_below
one_part zero f k l = absurd (omega arith)
one_part (suc m) f k l = ⊎_elim
    (λ e. let q = ap f e in omega (arith, q))
    (λ q. let r = one_part m f k q in omega (arith, r))
    (eq-or-lt_of_le (let z : k ≤ m = omega arith in z))

pub sizes_are_cells : (book : Book) (levels : ℕ → ℕ → List Level) (grids : ℕ → ℕ → List (List (List ℤ))) → AreGridsOf book levels grids → total_size book.goods grids ≡ cells book
unfolding cells total_size
sizes_are_cells book levels grids are = pair_parts (suc book.goods) _ _ (λ j l. pair_parts j _ _ (λ i h.
    pair_sizes book i j (levels i j) (grids i j) (are.all i j h (omega arith)) (are.size i j h (omega arith)) (are.each i j h (omega arith))))

level_within : (n i j : ℕ) (bs : List Bid) (d : ℤ) → Contains (differences i j bs) d → level_cells n i j bs d ≤ pair_cells n bs i j
unfolding pair_cells
level_within n i j bs d h =
    let s = sum_without (level_cells n i j bs) d (differences i j bs) in
    let t = ap (λ z. let m : ℕ = cond z (level_cells n i j bs d) 0 in m) (among_from (differences i j bs) d h) in
    omega (arith, s, t)

-- the grid of a level has at most as many points as the list has cells
pub grid_within : (book : Book) (level : Level) (grid : List (List ℤ)) → IsLevelOf book level → IsGridOf book level grid → size_of grid ≤ cells book
unfolding cells
grid_within book level grid is of =
    let n = book.goods in
    let i = level.first in
    let j = level.second in
    let a = grid_cells book level grid is of in
    let b = level_within n i j book.bids level.difference is.negative in
    let p : ℕ → ℕ = λ k. pair_cells n book.bids k j in
    let q : ℕ → ℕ = λ l. sum_below l (λ k. pair_cells n book.bids k l) in
    let c = one_part j p i is.order in
    let d = one_part (suc n) q j (let w = is.within in omega (arith, w)) in
    omega (arith, a, b, c, d)
