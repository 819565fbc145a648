-- Capped utilities at scales: a step of a set's prices at a multiple of prices is that at the prices themselves; and a capped bidder is convex over
-- all rational prices.
use Rattle.std.proofs.Common.{◌≡◌, ℕ, zero, suc, ◌*◌, ◌≤◌, Bool, true, false, List, [], ◌∷◌, map, ℤ, pos, ◌-ℤ◌, ◌*ℤ◌, ◌≤ℤ◌, refl, arith, sym, ap, ap₂, subst, ◌∙◌, length}
use Rattle.std.proofs.lemmas.Int.{ints, clamps, by_lt_z}
use Rattle.std.proofs.lemmas.List.Elements.{All-map}
use mathlib.Core.Path.{fun_ext}
use Rattle.std.specs.Int.{int_min, int_max}
use Rattle.std.specs.Int.RustNames.{unsigned_abs}
use Rattle.mix_num.specs.Vectors.{Vector, Choices, bit, outside, plus}
use Rattle.mix_num.proofs.Products.{*ℤ-sum, *ℤ-difference, product_grows, product_grows_left}
use Rattle.mix_num.proofs.Quotients.{ceiling, ceiling_is}
use Rattle.mix_bids.specs.Offers.{Offers, best, gain, within}
use Rattle.mix_bids.specs.Convexity.{bid_at, offers_at}
use Rattle.mix_bids.specs.declared.bid.Bid.{Bid}
use Rattle.mix_bids.proofs.Falls.{gain_falls}
use Rattle.mix_bids.proofs.Lengths.{AreOver, first_over, rest_over}
use Rattle.mix_bids.proofs.Multiples.{gain-times, length-offers_at, offers_once, over_at, times, total_at}
use Rattle.mix_law.specs.Members.{KeepsLocal, fall_of}
use Rattle.mix_law.proofs.Midpoint.{middle_of_doubles}
use Rattle.mix_bids.specs.Caps.{ArePositive, IsConvexCapped, IsPositive, capped_total, capped_utility, capped_utility_at, placed, placed_times, sum_of_first, units}
use Rattle.mix_law.specs.Scales.{KeepsScales}
use Rattle.mix_law.proofs.Outside.{rho-fall}
use Rattle.mix_bids.proofs.BestMultiples.{best-multiple, gain-multiple}
use Rattle.mix_bids.proofs.PositiveBids.{gain_of}
use Rattle.mix_cap.specs.Laws.{capped_keeps}

-- ---- a measure that keeps the order of another
abbrev IsGrowing : (ℤ → ℤ) → Type 0
IsGrowing f = (a b : ℤ) → a ≤ℤ b → f a ≤ℤ f b

grows_max : (f : ℤ → ℤ) (a b : ℤ) → IsGrowing f → int_max (f a) (f b) ≡ f (int_max a b)
grows_max f a b g = by_lt_z a b
    (λ h. let e : int_max a b ≡ b = omega (arith, ints, clamps) in let l = g a b (omega (arith, ints)) in let q = ap f e in omega (arith, ints, clamps))
    (λ h. let e : int_max a b ≡ a = omega (arith, ints, clamps) in let l = g b a h in let q = ap f e in omega (arith, ints, clamps))

grows_min : (f : ℤ → ℤ) (a b : ℤ) → IsGrowing f → int_min (f a) (f b) ≡ f (int_min a b)
grows_min f a b g = by_lt_z a b
    (λ h. let e : int_min a b ≡ a = omega (arith, ints, clamps) in let l = g a b (omega (arith, ints)) in let q = ap f e in omega (arith, ints, clamps))
    (λ h. let e : int_min a b ≡ b = omega (arith, ints, clamps) in let l = g b a h in let q = ap f e in omega (arith, ints, clamps))

placed-map : (f : ℤ → ℤ) → IsGrowing f → (a : ℤ) (us : List ℤ) → placed (f a) (map f us) ≡ map f (placed a us)
placed-map f g a [] = refl
placed-map f g a (u ∷ us) =
    ap₂ (λ (p : ℤ) (q : List ℤ). p ∷ q) (grows_max f a u g) (ap (λ (p : ℤ). placed p (map f us)) (grows_min f a u g) ∙ placed-map f g (int_min a u) us)

times-map : (f : ℤ → ℤ) → IsGrowing f → (m : ℕ) (a : ℤ) (us : List ℤ) → placed_times m (f a) (map f us) ≡ map f (placed_times m a us)
times-map f g zero a us = refl
times-map f g (suc m) a us = ap (placed (f a)) (times-map f g m a us) ∙ placed-map f g a (placed_times m a us)

-- measures that are f of another give the list with f of each
units-map : (f : ℤ → ℤ) → IsGrowing f → (n : ℕ) (key other : Bid → ℤ) (bs : List Bid) → AreOver n bs → ((b : Bid) → length b.values.items ≡ n → other b ≡ f (key b)) → units other bs ≡ map f (units key bs)
units-map f g n key other [] o h = refl
units-map f g n key other (b ∷ bs) o h =
    ap₂ (λ (a : ℤ) (us : List ℤ). placed_times (unsigned_abs b.weight) a us) (h b (first_over n b bs o)) (units-map f g n key other bs (rest_over n b bs o) h)
    ∙ times-map f g (unsigned_abs b.weight) (key b) (units key bs)

-- the units of bids at a scale
units-at : (key : Bid → ℤ) (d : ℕ) (bs : List Bid) → units key (map (bid_at d) bs) ≡ units (λ b. key (bid_at d b)) bs
units-at key d [] = refl
units-at key d (b ∷ bs) = ap (placed_times (unsigned_abs b.weight) (key (bid_at d b))) (units-at key d bs)

-- ---- sums of the first of multiples, and of differences
first-multiple : (e c : ℕ) (us : List ℤ) → sum_of_first c (map (λ u. pos e *ℤ u) us) ≡ pos e *ℤ sum_of_first c us
first-multiple e zero us = omega (arith, ints)
first-multiple e (suc c) [] = omega (arith, ints)
first-multiple e (suc c) (u ∷ us) = let h = first-multiple e c us in let s = *ℤ-sum (pos e) u (sum_of_first c us) in omega (arith, ints)

first-difference : (d : ℕ) (f g : ℤ → ℤ) (c : ℕ) (us : List ℤ) → sum_of_first c (map (λ u. (pos d *ℤ f u) -ℤ g u) us) ≡ (pos d *ℤ sum_of_first c (map f us)) -ℤ sum_of_first c (map g us)
first-difference d f g zero us = omega (arith, ints)
first-difference d f g (suc c) [] = omega (arith, ints)
first-difference d f g (suc c) (u ∷ us) = let h = first-difference d f g c us in let s = *ℤ-sum (pos d) (f u) (sum_of_first c (map f us)) in omega (arith, ints)

-- at the scale 1 it is the capped utility
units-once : (x : Vector) (bs : List Bid) → units (gain_of x) (map (bid_at 1) bs) ≡ units (gain_of x) bs
units-once x [] = refl
units-once x (b ∷ bs) = ap₂ (λ (vs : Offers) (us : List ℤ). placed_times (unsigned_abs b.weight) (gain vs x) us) (offers_once b.values.items) (units-once x bs)

pub capped_once : (c : ℕ) (bs : List Bid) (x : Vector) → capped_utility_at c bs 1 x ≡ capped_utility c bs x
capped_once c bs x = ap (sum_of_first c) (units-once x bs)

multiples_grow : (e : ℕ) → IsGrowing (λ u. pos e *ℤ u)
multiples_grow e a b h = product_grows (pos e) a b (omega (arith, ints)) h

-- where prices and scale are e times as great, so is the capped utility
pub capped-times : (n e d c : ℕ) (bs : List Bid) (x : Vector) → AreOver n bs → capped_utility_at c bs (e * d) (times e x) ≡ pos e *ℤ capped_utility_at c bs d x
capped-times n e d c bs x o =
    let p = units-at (gain_of (times e x)) (e * d) bs in
    let q = units-at (gain_of x) d bs in
    let m = units-map (λ u. pos e *ℤ u) (multiples_grow e) n (λ b. gain_of x (bid_at d b)) (λ b. gain_of (times e x) (bid_at (e * d) b)) bs o (λ b l. gain-times e d b.values.items x) in
    ap (sum_of_first c) (p ∙ m) ∙ first-multiple e c (units (λ b. gain_of x (bid_at d b)) bs) ∙ ap (λ (us : List ℤ). pos e *ℤ sum_of_first c us) (sym q)

-- ---- one step of a set's prices: a unit's gain at the scale 2 tells its gain, and whether it falls
half : ℤ → ℤ
half u = ceiling 2 u

-- whether twice a number is one more than the other
odd : ℤ → ℤ
odd u = (pos 2 *ℤ half u) -ℤ u

-- what a unit gains at the scale d, by what it gains at the scale 2
at_scale : ℕ → ℤ → ℤ
at_scale d u = (pos d *ℤ half u) -ℤ odd u

half_grows : IsGrowing half
unfolding half
half_grows a b h =
    let p = ceiling_is 2 a (omega arith) in
    let q = ceiling_is 2 b (omega arith) in
    let pl = p.low in
    let ph = p.high in
    let ql = q.low in
    let qh = q.high in
    omega (arith, ints)

at_scale_grows : (d : ℕ) → 1 ≤ d → IsGrowing (at_scale d)
unfolding at_scale odd half
at_scale_grows d some a b h =
    let p = ceiling_is 2 a (omega arith) in
    let q = ceiling_is 2 b (omega arith) in
    let pl = p.low in
    let ph = p.high in
    let ql = q.low in
    let qh = q.high in
    let l : pos 0 ≤ℤ (ceiling 2 b -ℤ ceiling 2 a) = omega (arith, ints) in
    let g = product_grows_left (pos 1) (pos d) (ceiling 2 b -ℤ ceiling 2 a) l (omega (arith, ints)) in
    let e = *ℤ-difference (pos d) (ceiling 2 b) (ceiling 2 a) in
    omega (arith, ints)

half_is : (g : ℤ) (t : Bool) → half ((pos 2 *ℤ g) -ℤ bit t) ≡ g
unfolding half
half_is g true =
    let p = ceiling_is 2 ((pos 2 *ℤ g) -ℤ pos 1) (omega arith) in
    let pl = p.low in
    let ph = p.high in
    omega (arith, ints)
half_is g false =
    let p = ceiling_is 2 ((pos 2 *ℤ g) -ℤ pos 0) (omega arith) in
    let pl = p.low in
    let ph = p.high in
    omega (arith, ints)

at_scale_is : (d : ℕ) (g : ℤ) (t : Bool) → at_scale d ((pos 2 *ℤ g) -ℤ bit t) ≡ (pos d *ℤ g) -ℤ bit t
unfolding at_scale odd
at_scale_is d g t = let h = half_is g t in let e = ap (λ (z : ℤ). pos d *ℤ z) h in omega (arith, ints)

-- the gain at a scale d, after a step of a set's prices from d times the prices
stepped : (n d : ℕ) (vs : Offers) (x : Vector) (s : Choices) → length vs ≤ n → 1 ≤ d → gain (offers_at d vs) (plus (times d x) s) ≡ (pos d *ℤ gain vs x) -ℤ bit (within (suc n) (best vs x) s)
stepped n d vs x s l some =
    let f = gain_falls n (offers_at d vs) (times d x) s (omega (arith, length-offers_at d vs)) in
    let m = gain-multiple d vs x in
    let e : best (offers_at d vs) (times d x) ≡ best vs x = fun_ext (λ k. best-multiple d vs x k some) in
    let b = ap (λ (c : Choices). bit (within (suc n) c s)) e in
    omega (arith, ints)

-- what a bid gains at the scale 2 after the step
abbrev marked : Vector → Choices → Bid → ℤ
marked x s b = gain (offers_at 2 b.values.items) (plus (times 2 x) s)

first_stepped : (n d c : ℕ) (bs : List Bid) (x : Vector) (s : Choices) → AreOver n bs → 1 ≤ d
    → capped_utility_at c bs d (plus (times d x) s) ≡ (pos d *ℤ sum_of_first c (map half (units (marked x s) bs))) -ℤ sum_of_first c (map odd (units (marked x s) bs))
unfolding at_scale
first_stepped n d c bs x s o some =
    let p = units-at (gain_of (plus (times d x) s)) d bs in
    let m = units-map (at_scale d) (at_scale_grows d some) n (marked x s) (λ b. gain_of (plus (times d x) s) (bid_at d b)) bs o (λ b l.
    let le : length b.values.items ≤ n = omega arith in
    stepped n d b.values.items x s le some ∙ sym (ap (at_scale d) (stepped n 2 b.values.items x s le (omega arith)) ∙ at_scale_is d (gain b.values.items x) (within (suc n) (best b.values.items x) s))) in
    ap (sum_of_first c) (p ∙ m) ∙ first-difference d half odd c (units (marked x s) bs)

first_still : (n d c : ℕ) (bs : List Bid) (x : Vector) (s : Choices) → AreOver n bs
    → capped_utility_at c bs d (times d x) ≡ pos d *ℤ sum_of_first c (map half (units (marked x s) bs))
first_still n d c bs x s o =
    let p = units-at (gain_of (times d x)) d bs in
    let m = units-map (λ u. pos d *ℤ u) (multiples_grow d) n (gain_of x) (λ b. gain_of (times d x) (bid_at d b)) bs o (λ b l. gain-multiple d b.values.items x) in
    let h = units-map half half_grows n (marked x s) (gain_of x) bs o (λ b l.
    let le : length b.values.items ≤ n = omega arith in
    sym (ap half (stepped n 2 b.values.items x s le (omega arith)) ∙ half_is (gain b.values.items x) (within (suc n) (best b.values.items x) s))) in
    ap (sum_of_first c) (p ∙ m) ∙ first-multiple d c (units (gain_of x) bs) ∙ ap (λ (us : List ℤ). pos d *ℤ sum_of_first c us) h

-- so the fall is the same at each scale
fall-is : (n d c : ℕ) (bs : List Bid) (x : Vector) (s : Choices) → AreOver n bs → 1 ≤ d → fall_of (capped_utility_at c bs d) (times d x) s ≡ sum_of_first c (map odd (units (marked x s) bs))
fall-is n d c bs x s o some =
    let p = first_still n d c bs x s o in
    let q = first_stepped n d c bs x s o some in
    omega (arith, ints)

times-once : (x : Vector) → times 1 x ≡ x
times-once x = fun_ext (λ k. omega (arith, ints))

pub capped_falls_multiple : (n d c : ℕ) (bs : List Bid) (x : Vector) (s : Choices) → AreOver n bs → 1 ≤ d → fall_of (capped_utility_at c bs d) (times d x) s ≡ fall_of (capped_utility_at c bs 1) x s
capped_falls_multiple n d c bs x s o some =
    fall-is n d c bs x s o some ∙ sym (fall-is n 1 c bs x s o (omega arith)) ∙ ap (λ (y : Vector). fall_of (capped_utility_at c bs 1) y s) (times-once x)

-- ---- what fractions and convexity rest on
positive_at : (d : ℕ) (bs : List Bid) → ArePositive bs → ArePositive (map (bid_at d) bs)
positive_at d bs p = All-map IsPositive (bid_at d) bs p

pub capped_keeps_at : (n d c : ℕ) (bs : List Bid) → AreOver n bs → ArePositive bs → KeepsLocal n (capped_utility_at c bs d) (capped_total c bs)
capped_keeps_at n d c bs o p =
    subst (KeepsLocal n (capped_utility_at c bs d)) (ap (int_min (pos c)) (total_at d bs)) (capped_keeps n c (map (bid_at d) bs) (over_at n d bs o) (positive_at d bs p))

pub capped_keeps_scales : (n c : ℕ) (bs : List Bid) → AreOver n bs → ArePositive bs → KeepsScales n (capped_utility_at c bs)
capped_keeps_scales n c bs o p = record {
  total = capped_total c bs;
  keeps = λ d some. capped_keeps_at n d c bs o p;
  falls = λ d some x s. capped_falls_multiple n d c bs x s o some;
  rises = λ d some x s.
      let a = rho-fall (capped_keeps_at n d c bs o p) (times d x) s in
      let b = rho-fall (capped_keeps_at n 1 c bs o p) x s in
      let e = capped_falls_multiple n d c bs x (outside s) o some in
      omega (arith, ints);
}

-- a capped bidder is convex over all rational prices
pub capped_is_convex : (n c : ℕ) (bs : List Bid) → AreOver n bs → ArePositive bs → IsConvexCapped c bs
capped_is_convex n c bs o p = record {
  halfway = λ d some x y a b.
      let m = middle_of_doubles (capped_keeps_at n (2 * d) c bs o p) x y in
      let s = capped-times n 2 d c bs x o in
      let t = capped-times n 2 d c bs y o in
      omega (arith, ints);
}
