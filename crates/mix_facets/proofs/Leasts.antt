-- Where a facet weight is negative, a point of a level's grid has a facet weight that is at most it.
use Rattle.std.proofs.Common.{◌≡◌, ◌≢◌, ℕ, zero, suc, ◌≤◌, ◌<◌, Bool, true, false, cond, List, [], ◌∷◌, ℤ, pos, ◌+ℤ◌, ◌-ℤ◌, ◌≤ℤ◌, ◌<ℤ◌, refl, arith, sym, ap, ap₂, ◌∙◌, subst, Some, None, int_lt, length, get_or, map, Contains}
use Rattle.std.proofs.lemmas.Int.{ints}
use Rattle.std.proofs.lemmas.Bool.{false≢true}
use Rattle.std.proofs.lemmas.Bool.Decides.{nat_tests}
use Rattle.std.specs.List.{range_with_len}
use Rattle.std.proofs.lemmas.List.Elements.{All-from_get_or, All-contains}
use Rattle.std.proofs.lemmas.List.FromFn.{length-map-range_with_len, get_or-map-range_with_len}
use Rattle.mix_num.specs.Vectors.{Vector, Agree}
use Rattle.mix_bids.specs.Offers.{offer, pair, all_to}
use Rattle.mix_bids.specs.Bids.{Book, facet_weight}
use Rattle.mix_bids.specs.declared.bid.Bid.{Bid}
use Rattle.mix_bids.proofs.Sets.{all_to-true}
use Rattle.mix_bids.proofs.Lengths.{AreOver}
use Rattle.mix_bids.specs.Leads.{lead, lead_of, negative_lead}
use Rattle.mix_bids.specs.Levels.{has_lead, level_bids, differences}
use Rattle.mix_facets.specs.Levels.{Level, IsLevelOf}
use Rattle.mix_bids.specs.Levels.{other}
use Rattle.mix_facets.specs.Points.{place, coordinate, prices_at, IsCoordinate, IsNullCoordinate, IsPoint}
use Rattle.mix_facets.specs.Counted.{is_below, is_counted, weight_counted}
use Rattle.mix_facets.specs.Candidates.{candidates}
use Rattle.mix_facets.specs.Grids.{size_of, point_at, IsOn, IsGridOf}
use Rattle.mix_facets.proofs.Exacts.{not_pair}
use Rattle.mix_facets.proofs.Counts.{above, facet_counted, Lead, lead_is}
use Rattle.mix_facets.proofs.Members.{in_filter, contains_image}
use Rattle.mix_facets.proofs.Moves.{moved, moved_less, moved_good, moved_counted, SomeNegative, some_negative}
use Rattle.mix_facets.proofs.Placings.{other-place, place_below, other_first}
use Rattle.mix_facets.proofs.PointPrices.{price_first, price_second, price_other}
use Rattle.mix_facets.proofs.Numberings.{numbered_on}

-- ---- what is counted reads the other choices alone

beside_same : (t p q : Bool) → (t ≡ false → p ≡ q) → cond t true p ≡ cond t true q
beside_same true p q h = refl
beside_same false p q h = h refl

all_same : (m : ℕ) (p q : ℕ → Bool) → ((c : ℕ) → c < m → p c ≡ q c) → all_to m p ≡ all_to m q
all_same zero p q h = refl
all_same (suc m) p q h = ap₂ (λ u v. cond u v false) (h m (omega arith)) (all_same m p q (λ c l. h c (omega arith)))

-- two vectors with the same entries at the choices 0 to n other than i and j
abbrev pub AgreeBeside : ℕ → ℕ → ℕ → Vector → Vector → Type 0
AgreeBeside n i j u v = (c : ℕ) → c ≤ n → c ≢ i → c ≢ j → u c ≡ v c

counted_same : (n i j : ℕ) (u v : Vector) (b : Bid) → AgreeBeside n i j u v → is_counted n i j u b ≡ is_counted n i j v b
counted_same n i j u v b h = all_same (suc n) _ _ (λ c l. beside_same (pair i j c) (is_below (lead_of b c i) (u c)) (is_below (lead_of b c i) (v c)) (λ f. ap (is_below (lead_of b c i)) (h c (omega arith)
    (λ q. let r : pair i j c ≡ true = grind (arith, nat_tests) in false≢true (sym f ∙ r))
    (λ q. let r : pair i j c ≡ true = grind (arith, nat_tests) in false≢true (sym f ∙ r)))))

pub weight_same : (n i j : ℕ) (bs : List Bid) (u v : Vector) → AgreeBeside n i j u v → weight_counted n i j bs u ≡ weight_counted n i j bs v
weight_same n i j [] u v h = refl
weight_same n i j (b ∷ bs) u v h = ap₂ (λ p w. cond p b.weight (pos 0) +ℤ w) (counted_same n i j u v b h) (weight_same n i j bs u v h)

-- ---- the weight at a point

-- the facet weight at the prices of a point is the weight of the level's bids that are counted there
pub point_weight : (n : ℕ) (level : Level) (bs : List Bid) (point : List ℤ) (x : Vector) → AreOver n bs → level.first < level.second → level.second ≤ n → Agree n x (prices_at level point) → facet_weight n level.first level.second bs x ≡ weight_counted n level.first level.second (level_bids level.first level.second level.difference bs) (coordinate level.first level.second point)
point_weight n level bs point x o h l a =
    let i = level.first in
    let j = level.second in
    let p = a i (omega arith) ∙ price_first level point in
    let q = a j (omega arith) ∙ price_second level point h in
    let d : x i -ℤ x j ≡ level.difference = omega (arith, ints) in
    facet_counted n i j bs x o (omega arith) l
    ∙ ap (λ z. weight_counted n i j (level_bids i j z bs) (above i x)) d
    ∙ weight_same n i j (level_bids i j level.difference bs) (above i x) (coordinate i j point) (λ c m r s. let e = a c m ∙ price_other level point c r s in omega (arith, ints))

-- ---- the grid holds a point of no greater weight

-- the moved point as a list of coordinates
abbrev moved_point : ℕ → ℕ → ℕ → List Bid → Vector → List ℤ
moved_point m i j bs u = map (λ k. moved i bs u (other i j k)) (range_with_len 0 m)

moved_coordinate : (m i j : ℕ) (bs : List Bid) (u : Vector) (k : ℕ) → k < m → get_or (moved_point m i j bs u) k (pos 0) ≡ moved i bs u (other i j k)
moved_coordinate m i j bs u k l = get_or-map-range_with_len (λ k. moved i bs u (other i j k)) 0 m k k (pos 0) l (omega arith)

-- the level's bid of negative weight that is counted gives the null choice its candidate
moved_null : (n i j : ℕ) (d : ℤ) (bs : List Bid) (u : Vector) → 0 < i → i < j → SomeNegative n i j (level_bids i j d bs) u → Contains (candidates i 0 (level_bids i j d bs)) (moved i (level_bids i j d bs) u 0)
moved_null n i j d bs u p h s =
    let m = in_filter (has_lead i j d) bs s.bid s.member in
    let t = lead_is (offer s.bid.values.items i) (offer s.bid.values.items j) d m.1 in
    let e : lead_of s.bid 0 i ≡ Some (pos 0 -ℤ t.greater) = ap (lead (Some (pos 0))) t.offers_greater in
    let c = all_to-true (suc n) (λ c. cond (pair i j c) true (is_below (lead_of s.bid c i) (u c))) s.counted 0 (omega arith) in
    let f : pair i j 0 ≡ false = not_pair i j 0 (omega arith) (omega arith) in
    let g : is_below (Some (pos 0 -ℤ t.greater)) (u 0) ≡ true = sym (ap₂ (λ z o. cond z true (is_below o (u 0))) f e) ∙ c in
    let l : (pos 0 -ℤ t.greater) <ℤ u 0 = grind (arith, ints) in
    moved_counted i 0 (level_bids i j d bs) (u 0) s.bid (pos 0 -ℤ t.greater) s.member s.negative e l

-- each moved coordinate is a candidate
moved_candidate : (n i j : ℕ) (d : ℤ) (bs : List Bid) (u : Vector) (c : ℕ) → i < j → c ≢ i → SomeNegative n i j (level_bids i j d bs) u → Contains (candidates i c (level_bids i j d bs)) (moved i (level_bids i j d bs) u c)
moved_candidate n i j d bs u zero h p s = moved_null n i j d bs u (omega arith) h s
moved_candidate n i j d bs u (suc c) h p s = moved_good i (suc c) (level_bids i j d bs) (u (suc c)) (omega arith)

pub record SomeLess (book : Book) (level : Level) (grid : List (List ℤ)) (x : Vector) : Type 0 where
  pub number : ℕ
  pub below : number < size_of grid
  pub less : facet_weight book.goods level.first level.second book.bids (prices_at level (point_at grid number)) ≤ℤ facet_weight book.goods level.first level.second book.bids x

pub some_less : (book : Book) (level : Level) (grid : List (List ℤ)) (x : Vector) → AreOver book.goods book.bids → IsLevelOf book level → IsGridOf book level grid → x level.first -ℤ x level.second ≡ level.difference → facet_weight book.goods level.first level.second book.bids x <ℤ pos 0 → SomeLess book level grid x
some_less book level grid x o v g e h =
    let n = book.goods in
    let i = level.first in
    let j = level.second in
    let d = level.difference in
    let bs = level_bids i j d book.bids in
    let u = above i x in
    let m = length grid in
    let w : facet_weight n i j book.bids x ≡ weight_counted n i j bs u =
    facet_counted n i j book.bids x o (omega (arith, v.order, v.within)) v.within ∙ ap (λ z. weight_counted n i j (level_bids i j z book.bids) u) e in
    let s = some_negative n i j bs u (omega (arith, ints)) in
    let p = moved_point m i j bs u in
    let l : length p ≡ m = length-map-range_with_len (λ k. moved i bs u (other i j k)) 0 m in
    let r = numbered_on grid p (record {
      size = l;
      each = λ k b. subst (Contains (get_or grid k [])) (sym (moved_coordinate m i j bs u k b))
          (((g.each k b).members (moved i bs u (other i j k))).1 (moved_candidate n i j d book.bids u (other i j k) v.order (other_first i j k v.order) s));
    }) in
    let a : AgreeBeside n i j (coordinate i j p) (moved i bs u) = λ c b y z.
    moved_coordinate m i j bs u (place i j c) (omega (arith, place_below n i j c v.order v.within b y z, g.size, v.goods)) ∙ ap (moved i bs u) (other-place i j c v.order y z) in
    let q = point_weight n level book.bids p (prices_at level p) o v.order v.within (λ c b. refl) in
    let t = weight_same n i j bs (coordinate i j p) (moved i bs u) a in
    let f = moved_less n i j bs u in
    record {
      number = r.number;
      below = r.below;
      less = subst (λ (z : List ℤ). facet_weight n i j book.bids (prices_at level z) ≤ℤ facet_weight n i j book.bids x) (sym r.is) (omega (arith, ints));
    }

-- ---- where a facet weight is negative, its difference is one of a level

negative_at : (b : Bid) (i j : ℕ) (d : ℤ) → int_lt b.weight (pos 0) ≡ true → Lead (offer b.values.items i) (offer b.values.items j) d → negative_lead b i j ≡ Some d
negative_at b i j d n t = ap (λ z. cond z (lead_of b i j) None) n ∙ ap₂ lead t.offers_greater t.offers_lesser ∙ ap Some t.is

pub negative_difference : (n i j : ℕ) (bs : List Bid) (x : Vector) → AreOver n bs → i ≤ n → j ≤ n → facet_weight n i j bs x <ℤ pos 0 → Contains (differences i j bs) (x i -ℤ x j)
negative_difference n i j bs x o p q h =
    let d = x i -ℤ x j in
    let w = facet_counted n i j bs x o p q in
    let s = some_negative n i j (level_bids i j d bs) (above i x) (omega (arith, ints)) in
    let m = in_filter (has_lead i j d) bs s.bid s.member in
    let t = lead_is (offer s.bid.values.items i) (offer s.bid.values.items j) d m.1 in
    contains_image (λ b. negative_lead b i j) bs s.bid d m.0 (negative_at s.bid i j d s.negative t)

-- ---- every point of the grid is a point of the level

pub grid_points : (book : Book) (level : Level) (grid : List (List ℤ)) (point : List ℤ) → level.first < level.second → level.second ≤ level.goods → IsGridOf book level grid → IsOn grid point → IsPoint level point
grid_points book level grid point p q g o = record {
  size = let e = o.size in let f = g.size in omega arith;
  near = All-from_get_or IsCoordinate point (pos 0) (λ k l. let m : k < length grid = omega (arith, o.size) in All-contains IsCoordinate (get_or grid k []) (get_or point k (pos 0)) (g.each k m).near (o.each k m));
  null = λ z. let m : 0 < length grid = omega (arith, g.size) in
      let e : other level.first level.second 0 ≡ 0 = grind (arith, nat_tests) in
      All-contains IsNullCoordinate (get_or grid 0 []) (get_or point 0 (pos 0)) ((g.each 0 m).null e) (o.each 0 m);
}
