-- A utility that keeps the laws never rises with prices, and where the utilities at all scales go together, none does with fractions.
use Rattle.std.proofs.Common.{◌≡◌, ℕ, zero, suc, ◌≤◌, ◌<◌, Bool, true, false, cond, eqb, List, [], ◌∷◌, ℤ, pos, negsuc, ◌+ℤ◌, ◌-ℤ◌, ◌*ℤ◌, ◌≤ℤ◌, length, get_or, refl, sym, ap, subst, arith, eqb-true}
use Rattle.std.proofs.lemmas.Int.{ints, clamps}
use Rattle.std.proofs.lemmas.Bool.{false≢true}
use Rattle.std.proofs.lemmas.List.{get_or-map, length-map}
use Rattle.std.specs.Int.{int_max, int_min}
use Rattle.mix_num.specs.Vectors.{Vector, Choices, bit, only, plus, ray, with_null}
use Rattle.mix_num.proofs.Products.{*ℤ-difference, product_grows_left}
use Rattle.mix_law.specs.Clearings.{AreLeastClearing, bidder_utility}
use Rattle.mix_law.specs.Members.{KeepsLaws, KeepsLocal}
use Rattle.mix_law.specs.Scales.{KeepsScales}
use Rattle.mix_law.proofs.Lattice.{Each, Each-spread, along, along-spread, greater, lattice, lesser, over, over_is, spread}
use Rattle.mix_law.proofs.Midpoint.{slopes_rise}
use Rattle.mix_law.proofs.Ranges.{decreasing}
use Rattle.mix_market.specs.Lyapunov.{IsBelow}
use Rattle.mix_clearing.specs.Fairness.{AreBestOfFractions}
use Rattle.mix_clearing.specs.Scales.{KeepScales, at_scale, multiplied}
use Rattle.mix_clearing.specs.Utilities.{KeepLaws}
use Rattle.mix_clearing.proofs.Fractions.{least_of_fractions-where_least_clearing, with_null-multiplied}
use Rattle.mix_clearing.proofs.PriceLists.{below-where_floor}

pub falls-where_lawful : (n : ℕ) (f : Vector → ℤ) → 1 ≤ n → KeepsLaws n f → (x y : Vector) → IsBelow n x y → f y ≤ℤ f x
falls-where_lawful n f some laws = decreasing some laws.l_natural

-- ---- a step along one choice

ray_at : (a : ℤ) (b : Bool) → a +ℤ cond b (pos 0) (pos 0) ≡ a
ray_at a true = omega (arith, ints)
ray_at a false = omega (arith, ints)

lesser_at : (y x : ℤ) (a : ℕ) (b : Bool) → (b ≡ true → y ≡ x +ℤ pos a) → (b ≡ false → y ≤ℤ x) → int_min (y +ℤ bit b) (x +ℤ cond b (pos a) (pos 0)) ≡ y
lesser_at y x a true h k = let e = h refl in omega (arith, ints, clamps)
lesser_at y x a false h k = let e = k refl in omega (arith, ints, clamps)

greater_at : (y x : ℤ) (a : ℕ) (b : Bool) → (b ≡ true → y ≡ x +ℤ pos a) → (b ≡ false → y ≤ℤ x) → int_max (y +ℤ bit b) (x +ℤ cond b (pos a) (pos 0)) ≡ x +ℤ cond b (pos (suc a)) (pos 0)
greater_at y x a true h k = let e = h refl in omega (arith, ints, clamps)
greater_at y x a false h k = let e = k refl in omega (arith, ints, clamps)

module _ {n : ℕ} {f : Vector → ℤ} {w : ℤ} (c : KeepsLocal n f w) where
  -- along a set the first slope is the least
  first_slope : (x : Vector) (s : Choices) (k : ℕ) → (f (ray x 1 s) -ℤ f (ray x 0 s)) ≤ℤ (f (ray x (suc k) s) -ℤ f (ray x k s))
  first_slope x s zero = omega (arith, ints)
  first_slope x s (suc k) = let h = first_slope x s k in let r = slopes_rise c x s k in omega (arith, ints)

  -- along one choice the function falls by no less at x than at y, whose own entry is no lower and whose others are no higher
  falls_no_less : (x y : Vector) (i a : ℕ) → ((k : ℕ) → k ≤ n → eqb k i ≡ true → y k ≡ x k +ℤ pos a) → ((k : ℕ) → k ≤ n → eqb k i ≡ false → y k ≤ℤ x k)
      → (f y -ℤ f (plus y (only i))) ≤ℤ (f x -ℤ f (plus x (only i)))
  falls_no_less x y i a own other =
      let r = first_slope x (only i) a in
      let m = lattice c (plus y (only i)) (ray x a (only i)) in
      let low = c.reads (lesser (plus y (only i)) (ray x a (only i))) y (λ k l. lesser_at (y k) (x k) a (eqb k i) (own k l) (other k l)) in
      let high = c.reads (greater (plus y (only i)) (ray x a (only i))) (ray x (suc a) (only i)) (λ k l. greater_at (y k) (x k) a (eqb k i) (own k l) (other k l)) in
      let none = c.reads (ray x 0 (only i)) x (λ k l. ray_at (x k) (eqb k i)) in
      let one = c.reads (ray x 1 (only i)) (plus x (only i)) (λ k l. refl) in
      omega (arith, ints)

  -- a function that rises along no choice rises nowhere
  falls-where_single : ((x : Vector) (i : ℕ) → i ≤ n → f (plus x (only i)) ≤ℤ f x) → (x y : Vector) → IsBelow n x y → f y ≤ℤ f x
  falls-where_single single x y h =
      let d : ℕ → ℕ = λ k. over (y k -ℤ x k) in
      let a = along_falls x (spread d (suc n)) (Each-spread (λ i. i ≤ n) d (suc n) (λ k l _. omega arith)) in
      let b = c.reads (along x (spread d (suc n))) y (λ k l. let s = along-spread n x d k l in let o = over_is (y k -ℤ x k) in let q = h k l in omega (arith, ints, clamps)) in
      omega (arith, ints)
    where
      along_falls : (x : Vector) (l : List ℕ) → Each (λ i. i ≤ n) l → f (along x l) ≤ℤ f x
      along_falls x [] e = omega (arith, ints)
      along_falls x (i ∷ l) e = let h = along_falls x l e.1 in let k = single (along x l) i e.0 in omega (arith, ints)

-- multiples at or above a number, and at or below it
multiple_over : (d : ℕ) (a : ℤ) → 1 ≤ d → a ≤ℤ (pos d *ℤ int_max a (pos 0))
multiple_over d (pos m) some =
    let e : int_max (pos m) (pos 0) ≡ pos m = omega (arith, ints, clamps) in
    let g = product_grows_left (pos 1) (pos d) (pos m) (omega (arith, ints)) (omega (arith, ints)) in
    let p = ap (λ z. pos d *ℤ z) e in
    let one : pos 1 *ℤ pos m ≡ pos m = omega (arith, ints) in
    omega (arith, ints)
multiple_over d (negsuc m) some =
    let e : int_max (negsuc m) (pos 0) ≡ pos 0 = omega (arith, ints, clamps) in
    let p = ap (λ z. pos d *ℤ z) e in
    let none : pos d *ℤ pos 0 ≡ pos 0 = omega (arith, ints) in
    omega (arith, ints)

multiple_under : (d : ℕ) (a : ℤ) → 1 ≤ d → (pos d *ℤ int_min a (pos 0)) ≤ℤ a
multiple_under d (pos m) some =
    let e : int_min (pos m) (pos 0) ≡ pos 0 = omega (arith, ints, clamps) in
    let p = ap (λ z. pos d *ℤ z) e in
    let none : pos d *ℤ pos 0 ≡ pos 0 = omega (arith, ints) in
    omega (arith, ints)
multiple_under d (negsuc m) some =
    let e : int_min (negsuc m) (pos 0) ≡ negsuc m = omega (arith, ints, clamps) in
    let p = ap (λ z. pos d *ℤ z) e in
    let g = product_grows_left (pos 1) (pos d) (pos 0 -ℤ negsuc m) (omega (arith, ints)) (omega (arith, ints)) in
    let q = *ℤ-difference (pos d) (pos 0) (negsuc m) in
    let none : pos d *ℤ pos 0 ≡ pos 0 = omega (arith, ints) in
    let one : pos 1 *ℤ (pos 0 -ℤ negsuc m) ≡ pos 0 -ℤ negsuc m = omega (arith, ints) in
    omega (arith, ints)

module _ (n : ℕ) (f : ℕ → Vector → ℤ) (scales : KeepsScales n f) (falls : (x y : Vector) → IsBelow n x y → f 1 y ≤ℤ f 1 x) (d : ℕ) (some : 1 ≤ d) where
  -- whole prices whose multiple has a higher entry at one choice, and lower ones at the others
  abbrev whole_at : Vector → ℕ → Vector
  whole_at x i = λ k. cond (eqb k i) (int_max (x k) (pos 0)) (int_min (x k) (pos 0))

  abbrev multiple_at : Vector → ℕ → Vector
  multiple_at x i = λ k. pos d *ℤ whole_at x i k

  entry_at : (a : ℤ) (b : Bool) → b ≡ true → pos d *ℤ cond b (int_max a (pos 0)) (int_min a (pos 0)) ≡ a +ℤ pos (over ((pos d *ℤ int_max a (pos 0)) -ℤ a))
  entry_at a true e = let o = over_is ((pos d *ℤ int_max a (pos 0)) -ℤ a) in let m = multiple_over d a some in omega (arith, ints, clamps)
  entry_at a false e = absurd (false≢true e)

  other_at : (a : ℤ) (b : Bool) → b ≡ false → (pos d *ℤ cond b (int_max a (pos 0)) (int_min a (pos 0))) ≤ℤ a
  other_at a true e = absurd (false≢true (sym e))
  other_at a false e = multiple_under d a some

  at_least : (a : ℤ) (b : Bool) → a ≤ℤ (a +ℤ bit b)
  at_least a true = omega (arith, ints)
  at_least a false = omega (arith, ints)

  single : (x : Vector) (i : ℕ) → i ≤ n → f d (plus x (only i)) ≤ℤ f d x
  single x i h =
      let a : ℕ = over ((pos d *ℤ int_max (x i) (pos 0)) -ℤ x i) in
      let r = falls_no_less (scales.keeps d some) x (multiple_at x i) i a
      (λ k l e. let P : ℕ → Type 0 = λ j. multiple_at x i k ≡ x k +ℤ pos (over ((pos d *ℤ int_max (x j) (pos 0)) -ℤ x j)) in subst P (eqb-true k i e) (entry_at (x k) (eqb k i) e))
      (λ k l e. other_at (x k) (eqb k i) e) in
      let s = scales.falls d some (whole_at x i) (only i) in
      let t = falls (whole_at x i) (plus (whole_at x i) (only i)) (λ k l. at_least (whole_at x i k) (eqb k i)) in
      omega (arith, ints)

  pub falls-at_scale : (x y : Vector) → IsBelow n x y → f d y ≤ℤ f d x
  falls-at_scale = falls-where_single (scales.keeps d some) single

-- the utility of the bidder at a place, at a scale
utility-at_scale : (us : List (ℕ → Vector → ℤ)) (d k : ℕ) → k < length us → bidder_utility (at_scale d us) k ≡ get_or us k (λ e x. pos 0) d
utility-at_scale us d k h = get_or-map (λ (f : ℕ → Vector → ℤ). f d) us k (λ e x. pos 0) (λ x. pos 0) h

-- so no prices with fractions that clear are better for a bidder than the least clearing prices
pub best-of_fractions : (utilities : List (ℕ → Vector → ℤ)) (supply reserve prices : List ℤ) → KeepScales (length supply) utilities → KeepLaws (length supply) (at_scale 1 utilities)
    → 1 ≤ length supply → AreLeastClearing (at_scale 1 utilities) supply reserve prices → AreBestOfFractions utilities supply reserve prices
best-of_fractions utilities supply reserve prices scales laws goods are d some others can k h =
    let n = length supply in
    let f : ℕ → Vector → ℤ = get_or utilities k (λ e x. pos 0) in
    let once : bidder_utility (at_scale 1 utilities) k ≡ f 1 = utility-at_scale utilities 1 k h in
    let law = laws k (let e = length-map utilities (λ (g : ℕ → Vector → ℤ). g 1) in omega (arith, e, h)) in
    let whole : (x y : Vector) → IsBelow n x y → f 1 y ≤ℤ f 1 x = subst (λ (g : Vector → ℤ). (x y : Vector) → IsBelow n x y → g y ≤ℤ g x) once (falls-where_lawful n (bidder_utility (at_scale 1 utilities) k) goods law) in
    let above = least_of_fractions-where_least_clearing utilities supply scales reserve prices are d some others can in
    let below = below-where_floor n (multiplied d prices) others (λ i l. let a = ap (λ (z : Vector). z (suc i)) (with_null-multiplied d prices) in let b = above i l in omega (arith, ints)) in
    let falls = falls-at_scale n f (scales k h) whole d some (with_null (multiplied d prices)) (with_null others) below in
    subst (λ (g : Vector → ℤ). g (with_null others) ≤ℤ g (with_null (multiplied d prices))) (sym (utility-at_scale utilities d k h)) falls
