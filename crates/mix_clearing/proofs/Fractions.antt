-- Fractions of prices: d times the least point is the least point at the scale d, so no fractions of prices below it clear.
use Rattle.std.proofs.Common.{◌≡◌, ℕ, zero, suc, ◌≤◌, ◌<◌, List, [], ◌∷◌, ℤ, pos, ◌+ℤ◌, ◌-ℤ◌, ◌*ℤ◌, ◌≤ℤ◌, refl, arith, sym, ap, subst, ◌∙◌, length, get_or}
use Rattle.std.proofs.Math.ListN.{get_or-map as get_mapped}
use Rattle.std.proofs.lemmas.Int.{ints}
use Rattle.std.proofs.lemmas.List.{get_or-map, length-map}
use mathlib.Core.Path.{fun_ext}
use Rattle.mix_num.specs.Vectors.{Vector, Choices, bit, dot_to, members, minus, plus, with_null}
use Rattle.mix_num.proofs.Costs.{dot_plus, dot_same}
use Rattle.mix_num.proofs.Products.{multiple_below, product_grows}
use Rattle.mix_law.specs.Members.{KeepsLocal, fall_of, rho}
use Rattle.mix_law.specs.Scales.{KeepsScales}
use Rattle.mix_market.specs.Lyapunov.{IsLeastPoint, lyapunov, sum_of}
use Rattle.mix_market.specs.Steepest.{IsGoods, slope_of}
use Rattle.mix_market.proofs.MarketLaws.{lyapunov-is, slope-is}
use Rattle.mix_law.specs.Clearings.{AreLeastClearing}
use Rattle.mix_market.specs.Lowerings.{RisesWhereFallen}
use Rattle.mix_clearing.specs.Scales.{AreLeastOfFractions, KeepScales, at_scale, multiplied}
use Rattle.mix_clearing.proofs.ClearingPrices.{least-where_clear}
use Rattle.mix_clearing.proofs.LeastClearing.{above-where_clear, least_point-where_least_clearing}
use Rattle.mix_clearing.proofs.LyapunovLaws.{KeepLocal, lyapunov_keeps_local}
use Rattle.mix_market.proofs.SingleSteps.{higher, least_point_of_steps, rises_at_least, same_null}

-- each entry d times
abbrev times : ℕ → Vector → Vector
times d x = λ k. pos d *ℤ x k

-- by how much a linear function changes in a step down
dot_minus : (m : ℕ) (q x : Vector) (s : Choices) → dot_to m q (minus x s) ≡ dot_to m q x -ℤ dot_to m q (λ k. bit (s k))
dot_minus m q x s =
    let a = dot_plus m q (minus x s) (λ k. bit (s k)) in
    let b = dot_same m q (λ k. minus x s k +ℤ bit (s k)) x (λ k l. omega (arith, ints)) in
    omega (arith, ints)

-- by how much the Lyapunov function changes where the prices of a set fall by one
descent-is : (functions : List (Vector → ℤ)) (supply : List ℤ) (x : Vector) (s : Choices)
    → rho (lyapunov functions supply) x s ≡ rho (sum_of functions) x s -ℤ dot_to (suc (length supply)) (with_null supply) (λ good. bit (s good))
descent-is functions supply x s =
    let a = lyapunov-is functions supply x in
    let b = lyapunov-is functions supply (minus x s) in
    let d = dot_minus (suc (length supply)) (with_null supply) x s in
    omega (arith, ints)

-- steps of the sum of the utilities at a scale
sum_falls : (n d : ℕ) (us : List (ℕ → Vector → ℤ)) (x : Vector) (s : Choices) → 1 ≤ d → KeepScales n us → fall_of (sum_of (at_scale d us)) (times d x) s ≡ fall_of (sum_of (at_scale 1 us)) x s
sum_falls n d [] x s some k = refl
sum_falls n d (f ∷ us) x s some k =
    let a = (k 0 (omega arith)).falls d some x s in
    let b = sum_falls n d us x s some (λ i l. k (suc i) (omega arith)) in
    omega (arith, ints)

sum_rises : (n d : ℕ) (us : List (ℕ → Vector → ℤ)) (x : Vector) (s : Choices) → 1 ≤ d → KeepScales n us → rho (sum_of (at_scale d us)) (times d x) s ≡ rho (sum_of (at_scale 1 us)) x s
sum_rises n d [] x s some k = refl
sum_rises n d (f ∷ us) x s some k =
    let a = (k 0 (omega arith)).rises d some x s in
    let b = sum_rises n d us x s some (λ i l. k (suc i) (omega arith)) in
    omega (arith, ints)

-- each utility at a scale keeps the local law
keep_local-at : (n d : ℕ) (us : List (ℕ → Vector → ℤ)) → 1 ≤ d → KeepScales n us → KeepLocal n (at_scale d us)
keep_local-at n d us some scales k l =
    let h : k < length us = subst (λ (m : ℕ). k < m) (length-map us (λ f. f d)) l in
    let one : KeepsScales n (get_or us k (λ e x. pos 0)) = scales k h in
    let P : (Vector → ℤ) → Type 0 = λ f. (w : ℤ) × KeepsLocal n f w in
    subst P (sym (get_or-map (λ (f : ℕ → Vector → ℤ). f d) us k (λ e x. pos 0) (λ x. pos 0) h)) (one.total, one.keeps d some)

-- the prices of a list, each d times
pub with_null-multiplied : (d : ℕ) (xs : List ℤ) → with_null (multiplied d xs) ≡ times d (with_null xs)
with_null-multiplied d xs = fun_ext at
  where
    at : (k : ℕ) → with_null (multiplied d xs) k ≡ pos d *ℤ with_null xs k
    at zero = omega (arith, ints)
    at (suc k) =
        let nothing : pos 0 ≡ pos d *ℤ pos 0 = omega (arith, ints) in
        ap (λ (z : ℤ). get_or (multiplied d xs) k z) nothing ∙ get_mapped (λ a. pos d *ℤ a) xs k (pos 0)

module _ (us : List (ℕ → Vector → ℤ)) (supply : List ℤ) (scales : KeepScales (length supply) us) where
  -- the Lyapunov function at a scale
  abbrev lyapunov_at : ℕ → Vector → ℤ
  lyapunov_at d = lyapunov (at_scale d us) supply

  lyapunov_at_keeps : (d : ℕ) → 1 ≤ d → (w : ℤ) × KeepsLocal (length supply) (lyapunov_at d) w
  lyapunov_at_keeps d some = lyapunov_keeps_local (at_scale d us) supply (keep_local-at (length supply) d us some scales)

  module _ (d : ℕ) (some : 1 ≤ d) where
    slope_multiple : (x : Vector) (s : Choices) → slope_of (lyapunov_at d) (times d x) s ≡ slope_of (lyapunov_at 1) x s
    slope_multiple x s = omega (arith, ints, slope-is (at_scale d us) supply (times d x) s, slope-is (at_scale 1 us) supply x s, sum_falls (length supply) d us x s some scales)

    descent_multiple : (x : Vector) (s : Choices) → rho (lyapunov_at d) (times d x) s ≡ rho (lyapunov_at 1) x s
    descent_multiple x s = omega (arith, ints, descent-is (at_scale d us) supply (times d x) s, descent-is (at_scale 1 us) supply x s, sum_rises (length supply) d us x s some scales)

    -- d times the least point is the least point at the scale d, at or above d times the start
    least_multiple : (start p : Vector) → p 0 ≡ pos 0 → IsLeastPoint (length supply) (lyapunov_at 1) start p → IsLeastPoint (length supply) (lyapunov_at d) (times d start) (times d p)
    least_multiple start p null least =
        least_point_of_steps (lyapunov_at_keeps d some).1 (times d start) (times d p) null_multiple (λ k l. product_grows (pos d) (start k) (p k) (omega (arith, ints)) (least.above k l)) up rises
      where
        null_multiple : pos d *ℤ p 0 ≡ pos 0
        null_multiple = ap (λ (z : ℤ). pos d *ℤ z) null ∙ (let e : pos d *ℤ pos 0 ≡ pos 0 = omega (arith, ints) in e)

        up : (s : Choices) → IsGoods s → lyapunov_at d (times d p) ≤ℤ lyapunov_at d (plus (times d p) s)
        up s o =
            let a = slope_multiple p s in
            let z : plus p s 0 ≡ pos 0 = same_null (p 0) (s 0) o ∙ null in
            let b = least.least (plus p s) z (λ k l. higher (start k) (p k) (s k) (least.above k l)) in
            omega (arith, ints)

        rises : RisesWhereFallen (length supply) (lyapunov_at d) (times d start) (times d p)
        rises set f =
            let a = descent_multiple p (members set) in
            let b = rises_at_least (lyapunov_at_keeps 1 (omega arith)).1 start p null least.above least set
            (record { goods = f.goods; some = f.some; above = λ k l m. multiple_below d (start k) (p k) some (f.above k l m) }) in
            omega (arith, ints)

  -- so whatever clears at a scale d is at or above d times the least point at the scale 1
  pub least_of_fractions : (reserve p : List ℤ) → length p ≡ length supply → IsLeastPoint (length supply) (lyapunov_at 1) (with_null reserve) (with_null p) → AreLeastOfFractions us supply reserve p
  least_of_fractions reserve p size least d some q c i l =
      let m = least_multiple d some (with_null reserve) (with_null p) refl least in
      let scaled : IsLeastPoint (length supply) (lyapunov_at d) (with_null (multiplied d reserve)) (with_null (multiplied d p)) =
      subst (λ (z : Vector). IsLeastPoint (length supply) (lyapunov_at d) z (with_null (multiplied d p))) (sym (with_null-multiplied d reserve))
      (subst (λ (z : Vector). IsLeastPoint (length supply) (lyapunov_at d) (times d (with_null reserve)) z) (sym (with_null-multiplied d p)) m) in
      let above = above-where_clear (at_scale d us) supply (multiplied d reserve) q c in
      let a = least-where_clear (at_scale d us) supply (multiplied d reserve) q c.0 c.1 c.2 (multiplied d p) (length-map p (λ a. pos d *ℤ a) ∙ size) (λ j h. scaled.above (suc j) (omega arith)) in
      let b = scaled.least (with_null q) refl above in
      let e = scaled.lowest (with_null q) refl above (omega (arith, ints)) (suc i) (omega arith) in
      let f = ap (λ (z : Vector). z (suc i)) (with_null-multiplied d p) in
      omega (arith, ints)

  -- and so at or above d times the least clearing prices
  pub least_of_fractions-where_least_clearing : (reserve p : List ℤ) → AreLeastClearing (at_scale 1 us) supply reserve p → AreLeastOfFractions us supply reserve p
  least_of_fractions-where_least_clearing reserve p are =
      least_of_fractions reserve p are.clear.2.size (least_point-where_least_clearing (at_scale 1 us) supply reserve p (lyapunov_at_keeps 1 (omega arith)).1.reads are)
