-- A grid of a level has a point: each coordinate has a candidate.
use Rattle.std.proofs.Common.{◌≡◌, ◌≢◌, ℕ, zero, suc, ◌*◌, ◌≤◌, ◌<◌, ◌⊎◌, inl, inr, Bool, true, false, cond, List, [], ◌∷◌, ℤ, pos, ◌+ℤ◌, ◌-ℤ◌, refl, arith, sym, ap, ◌∙◌, Option, Some, None, int_lt, length, get_or, take, drop, Contains, filter, filter_map}
use Rattle.std.specs.List.{cons_option}
use Rattle.std.proofs.lemmas.Int.{ints}
use Rattle.std.proofs.lemmas.Bool.{false≢true}
use Rattle.mix_num.proofs.Equalities.{int_eq_is}
use Rattle.mix_bids.specs.Offers.{offer}
use Rattle.mix_bids.specs.Bids.{Book}
use Rattle.mix_bids.specs.declared.bid.Bid.{Bid}
use Rattle.mix_bids.specs.Leads.{lead, lead_of, negative_lead}
use Rattle.mix_bids.specs.Levels.{is_lead, has_lead, level_bids, differences}
use Rattle.mix_facets.specs.Levels.{Level, bids_of, IsLevelOf}
use Rattle.mix_bids.specs.Levels.{other}
use Rattle.mix_facets.specs.Candidates.{candidates}
use Rattle.mix_facets.specs.Grids.{size_of, IsGridOf}
use Rattle.mix_facets.proofs.Counts.{lead_is}
use Rattle.mix_facets.proofs.Members.{In}
use Rattle.mix_facets.proofs.Moves.{moved_at, moved_good, moved_counted}
use Rattle.mix_facets.proofs.Placings.{other_first}

-- a bid that passes a test is kept
filter_in : {X : Type 0} (p : X → Bool) (xs : List X) (x : X) → In x xs → p x ≡ true → In x (filter p xs)
filter_in p [] x h e = absurd h
filter_in p (y ∷ ys) x h e = at (p y) refl h (λ k. filter_in p ys x k e)
  where
    at : (t : Bool) → p y ≡ t → (x ≡ y) ⊎ In x ys → (In x ys → In x (filter p ys)) → In x (cond t (y ∷ filter p ys) (filter p ys))
    at true f (inl q) g = inl q
    at true f (inr k) g = inr (g k)
    at false f (inl q) g = absurd (false≢true (sym f ∙ ap p (sym q) ∙ e))
    at false f (inr k) g = g k

-- what a partial map makes it makes of a member
pub record IsImage {X Y : Type 0} (h : X → Option Y) (xs : List X) (y : Y) : Type 0 where
  pub of : X
  pub member : In of xs
  pub is : h of ≡ Some y

image_of : {X Y : Type 0} (h : X → Option Y) (xs : List X) (y : Y) → Contains (filter_map h xs) y → IsImage h xs y
image_of h [] y c = let l = c.1 in absurd (omega arith)
image_of {X} {Y} h (x ∷ xs) y c = at (h x) refl c (λ d. image_of h xs y d)
  where
    at : (o : Option Y) → h x ≡ o → Contains (cons_option o (filter_map h xs)) y → (Contains (filter_map h xs) y → IsImage h xs y) → IsImage h (x ∷ xs) y
    at None e d f = let r = f d in record { of = r.of; member = inr r.member; is = r.is }
    at (Some z) e (zero, l, q) f = record { of = x; member = inl refl; is = e ∙ ap Some q }
    at (Some z) e (suc k, l, q) f = let r = f (k, omega arith, q) in record { of = r.of; member = inr r.member; is = r.is }

-- a bid of negative weight of the level
pub record IsNegative (i j : ℕ) (d : ℤ) (bs : List Bid) : Type 0 where
  pub bid : Bid
  pub member : In bid (level_bids i j d bs)
  pub negative : int_lt bid.weight (pos 0) ≡ true
  pub value : ℤ
  pub offered : offer bid.values.items i ≡ Some value

negative_of : (i j : ℕ) (d : ℤ) (bs : List Bid) → Contains (differences i j bs) d → IsNegative i j d bs
negative_of i j d bs c =
    let m = image_of (λ b. negative_lead b i j) bs d c in
    let b = m.of in
    let p = parts (int_lt b.weight (pos 0)) (lead_of b i j) m.is in
    let t : has_lead i j d b ≡ true = ap (λ o. is_lead o d) p.1 ∙ (int_eq_is d d).1 refl in
    let w = lead_is (offer b.values.items i) (offer b.values.items j) d t in
    record { bid = b; member = filter_in (has_lead i j d) bs b m.member t; negative = p.0; value = w.greater; offered = w.offers_greater }
  where
    parts : (t : Bool) (o : Option ℤ) → cond t o None ≡ Some d → (t ≡ true) × (o ≡ Some d)
    parts true o e = (refl, e)
    parts false o e = absurd (cc)

-- each choice other than the first has a candidate
candidate_of : (book : Book) (level : Level) (c : ℕ) → IsLevelOf book level → c ≢ level.first → (u : ℤ) × Contains (candidates level.first c (bids_of book level)) u
candidate_of book level zero v h =
    let s = negative_of level.first level.second level.difference book.bids v.negative in
    let w = pos 0 -ℤ s.value in
    let bs = bids_of book level in
    (moved_at level.first 0 bs (w +ℤ pos 1), moved_counted level.first 0 bs (w +ℤ pos 1) s.bid w s.member s.negative (ap (lead (Some (pos 0))) s.offered) (omega (arith, ints)))
candidate_of book level (suc c) v h = (moved_at level.first (suc c) (bids_of book level) (pos 0), moved_good level.first (suc c) (bids_of book level) (pos 0) (omega arith))

size_some : (grid : List (List ℤ)) → ((k : ℕ) → k < length grid → 0 < length (get_or grid k [])) → 0 < size_of grid
size_some [] h = omega arith
size_some (us ∷ grid) h = product (length us) (size_of grid) (h 0 (omega arith)) (size_some grid (λ k l. h (suc k) (omega arith)))
  where
    product : (a b : ℕ) → 0 < a → 0 < b → 0 < a * b
    product zero b p q = absurd (omega arith)
    product (suc a) b p q = omega arith

pub grid_some : (book : Book) (level : Level) (grid : List (List ℤ)) → IsLevelOf book level → IsGridOf book level grid → 0 < size_of grid
grid_some book level grid v g = size_some grid (λ k l.
    let c = candidate_of book level (other level.first level.second k) v (other_first level.first level.second k v.order) in
    let m = ((g.each k l).members c.0).1 c.1 in
    let b = m.1 in
    omega arith)

-- ---- the parts before and after a coordinate

pub size_parts : (c : ℕ) (grid : List (List ℤ)) → c < length grid → size_of grid ≡ size_of (drop (suc c) grid) * (size_of (take c grid) * length (get_or grid c []))
size_parts c [] h = absurd (omega arith)
size_parts zero (us ∷ grid) h = omega arith
size_parts (suc c) (us ∷ grid) h =
    let e = size_parts c grid (omega arith) in
    product (length us) (size_of (drop (suc c) grid)) (size_of (take c grid)) (length (get_or grid c [])) (size_of grid) e
  where
    product : (a d t m s : ℕ) → s ≡ d * (t * m) → a * s ≡ d * (a * t * m)
    product a d t m s e = let f = ap (λ z. a * z) e in omega arith

pub size_more : (c : ℕ) (grid : List (List ℤ)) → c < length grid → size_of (take (suc c) grid) ≡ size_of (take c grid) * length (get_or grid c [])
size_more c [] h = absurd (omega arith)
size_more zero (us ∷ grid) h = omega arith
size_more (suc c) (us ∷ grid) h =
    let e = size_more c grid (omega arith) in
    let f = ap (λ z. length us * z) e in
    omega arith

-- a stride and its block have a cell, and no more cells than all
pub record IsPart (s m n : ℕ) : Type 0 where
  pub some : 0 < s
  pub fits : s * m ≤ n

pub part_of : (d s m n : ℕ) → n ≡ d * (s * m) → 0 < n → IsPart s m n
part_of zero s m n e h = absurd (omega arith)
part_of (suc d) zero m n e h = absurd (omega arith)
part_of (suc d) (suc s) m n e h = record { some = omega arith; fits = omega arith }
