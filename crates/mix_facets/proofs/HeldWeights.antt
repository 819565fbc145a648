-- Once all coordinates are added up, a cell holds the bids that are counted at its point, so its weight is the facet weight there.
use Rattle.std.proofs.Common.{◌≡◌, ◌≢◌, ℕ, zero, suc, ◌+◌, ◌/◌, ◌%◌, ◌≤◌, ◌<◌, Bool, true, false, cond, ltb, List, [], ◌∷◌, ℤ, pos, ◌+ℤ◌, refl, arith, sym, ap, ap₂, ◌∙◌, Option, length, get_or}
use Rattle.std.proofs.lemmas.Bool.{false≢true}
use Rattle.mix_num.specs.Vectors.{Vector, Agree}
use Rattle.mix_bids.specs.Offers.{pair}
use Rattle.mix_bids.specs.Bids.{Book, facet_weight}
use Rattle.mix_bids.specs.declared.bid.Bid.{Bid}
use Rattle.mix_bids.proofs.Cases.{by_test, same_bool}
use Rattle.mix_bids.proofs.Lengths.{AreOver}
use Rattle.mix_bids.proofs.Pairs.{pair_first, pair_second}
use Rattle.mix_bids.proofs.Sets.{all_to-true, all_to-intro}
use Rattle.mix_facets.specs.Counted.{is_below, stays_below, is_counted, weight_counted}
use Rattle.mix_bids.specs.Leads.{lead_of}
use Rattle.mix_facets.specs.Levels.{Level, bids_of, IsLevelOf}
use Rattle.mix_bids.specs.Levels.{other}
use Rattle.mix_facets.specs.Points.{place, coordinate, prices_at}
use Rattle.mix_facets.specs.Grids.{size_of, point_at, IsRising, IsGridOf}
use Rattle.mix_facets.specs.Cells.{first_place, leads, holds, weight_held}
use Rattle.mix_facets.proofs.Exacts.{not_pair}
use Rattle.mix_facets.proofs.FirstPlaces.{below_from}
use Rattle.mix_facets.proofs.Leasts.{point_weight}
use Rattle.mix_facets.proofs.Numberings.{digits_of}
use Rattle.mix_facets.proofs.Placings.{other-place, place-other, place_below, other_within, other_first, other_second}

-- ---- one coordinate after the other

-- each lead, of the coordinates from e on, is below the point's coordinate
abbrev AreBelow : ℕ → List (List ℤ) → (ℕ → Option ℤ) → ℕ → Type 0
AreBelow e grid l k = (d m : ℕ) → d < length grid → m ≡ e + d → is_below (l m) (get_or (point_at grid k) d (pos 0)) ≡ true

abbrev AreRising : List (List ℤ) → Type 0
AreRising grid = (d : ℕ) → d < length grid → IsRising (get_or grid d [])

both_true : (s t : Bool) → cond s t false ≡ true → (s ≡ true) × (t ≡ true)
both_true true t h = (refl, h)
both_true false t h = absurd (false≢true h)

held_below : (e : ℕ) (grid : List (List ℤ)) (l : ℕ → Option ℤ) (k : ℕ) → AreRising grid → k < size_of grid → holds (length grid) e grid l k ≡ true → AreBelow e grid l k
held_below e [] l k r h t = λ d m p q. absurd (omega arith)
held_below e (us ∷ grid) l k r h t =
    let d = digits_of k (length us) (size_of grid) h in
    let both = both_true (ltb (first_place us (l e)) (suc (k % length us))) (holds (length grid) (suc e) grid l (k / length us)) t in
    at d.rest both.0 (held_below (suc e) grid l (k / length us) (λ c b. r (suc c) (omega arith)) d.quotient both.1)
  where
    at : k % length us < length us → ltb (first_place us (l e)) (suc (k % length us)) ≡ true → AreBelow (suc e) grid l (k / length us) → AreBelow e (us ∷ grid) l k
    at rest f g zero m p q =
        ap (λ z. is_below (l z) (get_or us (k % length us) (pos 0))) (let s : m ≡ e = omega arith in s)
        ∙ sym (below_from us (l e) (k % length us) (r 0 (omega arith)) rest) ∙ f
    at rest f g (suc d) m p q = g d m (omega arith) (omega arith)

below_held : (e : ℕ) (grid : List (List ℤ)) (l : ℕ → Option ℤ) (k : ℕ) → AreRising grid → k < size_of grid → AreBelow e grid l k → holds (length grid) e grid l k ≡ true
below_held e [] l k r h t = refl
below_held e (us ∷ grid) l k r h t =
    let d = digits_of k (length us) (size_of grid) h in
    ap₂ (λ a b. cond a b false) (below_from us (l e) (k % length us) (r 0 (omega arith)) d.rest ∙ t 0 e (omega arith) (omega arith))
    (below_held (suc e) grid l (k / length us) (λ c b. r (suc c) (omega arith)) d.quotient (λ c m p q. t (suc c) m (omega arith) (omega arith)))

-- ---- one bid

beside : (t p : Bool) → t ≡ false → cond t true p ≡ p
beside t p h = ap (λ z. cond z true p) h

counted_is : (n i j : ℕ) (grid : List (List ℤ)) (k : ℕ) (b : Bid) → i < j → j ≤ n → suc (length grid) ≡ n → AreRising grid → k < size_of grid → holds (length grid) 0 grid (leads i j b) k ≡ is_counted n i j (coordinate i j (point_at grid k)) b
counted_is n i j grid k b h q s r l = same_bool (holds (length grid) 0 grid (leads i j b) k) (is_counted n i j u b)
    (λ t. all_to-intro (suc n) (stays_below i j u b) (λ c p. by_test (pair i j c)
    (λ e. ap (λ z. cond z true (is_below (lead_of b c i) (u c))) e)
    (λ e. beside (pair i j c) (is_below (lead_of b c i) (u c)) e ∙ (
    let x : c ≢ i = λ z. false≢true (sym e ∙ ap (pair i j) z ∙ pair_first i j) in
    let y : c ≢ j = λ z. false≢true (sym e ∙ ap (pair i j) z ∙ pair_second i j) in
    let w = place_below n i j c h q (omega arith) x y in
    ap (λ z. is_below (lead_of b z i) (u c)) (sym (other-place i j c h x y)) ∙ held_below 0 grid (leads i j b) k r l t (place i j c) (place i j c) (omega arith) (omega arith)))))
    (λ t. below_held 0 grid (leads i j b) k r l (λ d m p e.
    let c = other i j d in
    let w = other_within n i j d h q (omega arith) in
    let f = not_pair i j c (other_first i j d h) (other_second i j d h) in
    ap (λ z. is_below (leads i j b z) (get_or (point_at grid k) d (pos 0))) (let y : m ≡ d = omega arith in y)
    ∙ ap (λ z. is_below (lead_of b c i) (get_or (point_at grid k) z (pos 0))) (sym (place-other i j d h))
    ∙ sym (beside (pair i j c) (is_below (lead_of b c i) (u c)) f)
    ∙ all_to-true (suc n) (stays_below i j u b) t c (omega arith)))
  where
    u : ℕ → ℤ
    u = coordinate i j (point_at grid k)

-- ---- a list

weight_is : (n i j : ℕ) (grid : List (List ℤ)) (bs : List Bid) (k : ℕ) → i < j → j ≤ n → suc (length grid) ≡ n → AreRising grid → k < size_of grid → weight_held i j (length grid) grid bs k ≡ weight_counted n i j bs (coordinate i j (point_at grid k))
weight_is n i j grid [] k h q s r l = refl
weight_is n i j grid (b ∷ bs) k h q s r l = ap₂ (λ t w. cond t b.weight (pos 0) +ℤ w) (counted_is n i j grid k b h q s r l) (weight_is n i j grid bs k h q s r l)

-- the weight that a cell holds is the facet weight at its point
pub held_facet : (book : Book) (level : Level) (grid : List (List ℤ)) (k : ℕ) (x : Vector) → AreOver book.goods book.bids → IsLevelOf book level → IsGridOf book level grid → k < size_of grid → Agree book.goods x (prices_at level (point_at grid k))
    → weight_held level.first level.second (length grid) grid (bids_of book level) k ≡ facet_weight book.goods level.first level.second book.bids x
held_facet book level grid k x o v g h a =
    weight_is book.goods level.first level.second grid (bids_of book level) k v.order v.within (g.size ∙ v.goods) (λ d p. (g.each d p).rising) h
    ∙ sym (point_weight book.goods level book.bids (point_at grid k) x o v.order v.within a)
