-- In a market m times as large the least clearing prices are the same.
use Rattle.std.proofs.Common.{◌≡◌, ℕ, zero, suc, ◌≤◌, ◌<◌, ℤ, pos, ◌+ℤ◌, ◌*ℤ◌, List, [], ◌∷◌, length, map, get_or, sym, ap, subst, ◌∙◌, arith}
use Rattle.std.proofs.lemmas.Int.{ints}
use Rattle.std.proofs.lemmas.List.{get_or-map, length-map}
use Rattle.std.proofs.Math.ListN.{get_or-map as get_mapped}
use Rattle.mix_num.specs.Vectors.{Vector, dot_to, with_null}
use Rattle.mix_num.specs.Sums.{dot_of, entries}
use Rattle.mix_num.specs.Shares.{sum_at}
use Rattle.mix_num.proofs.Costs.{dot-comm, dot-is, dot_same}
use Rattle.mix_num.proofs.Products.{*ℤ-multiple, *ℤ-sum, multiple_below, multiple_same, product_grows, product_nonnegative}
use Rattle.mix_law.specs.Demands.{IsDemanded}
use Rattle.mix_market.specs.Lyapunov.{lyapunov, sum_of}
use Rattle.mix_market.proofs.MarketLaws.{lyapunov-is}
use Rattle.mix_law.specs.Clearings.{AreLeastClearing, CanClear, Clears, bidder_bundle, bidder_utility}
use Rattle.mix_clearing.specs.Scales.{multiplied}
use Rattle.mix_clearing.proofs.Ceilings.{clear-where_same, same-where_clear}
use Rattle.mix_clearing.proofs.LeastClearing.{above-where_clear}
use Rattle.mix_laws.specs.Sizes.{enlarged}

module _ (m : ℕ) where
  -- the entry of a list at a place, m times
  entry : (xs : List ℤ) (i : ℕ) → get_or (multiplied m xs) i (pos 0) ≡ pos m *ℤ get_or xs i (pos 0)
  entry xs i =
      let nothing : pos 0 ≡ pos m *ℤ pos 0 = omega (arith, ints) in
      ap (λ (z : ℤ). get_or (multiplied m xs) i z) nothing ∙ get_mapped (λ a. pos m *ℤ a) xs i (pos 0)

  entry_null : (xs : List ℤ) (k : ℕ) → with_null (multiplied m xs) k ≡ pos m *ℤ with_null xs k
  entry_null xs zero = omega (arith, ints)
  entry_null xs (suc k) = entry xs k

  -- products with m times the entries
  dot_times : (n : ℕ) (q x : Vector) → dot_to n q (λ k. pos m *ℤ x k) ≡ pos m *ℤ dot_to n q x
  dot_times zero q x = omega (arith, ints)
  dot_times (suc n) q x =
      let a = dot_times n q x in
      let b = *ℤ-multiple (q n) m (x n) in
      let c = *ℤ-sum (pos m) (dot_to n q x) (q n *ℤ x n) in
      omega (arith, ints)

  dot-multiplied : (q x : List ℤ) → dot_of q (multiplied m x) ≡ pos m *ℤ dot_of q x
  dot-multiplied q x =
      let a = dot-is q (multiplied m x) in
      let b = dot-is q x in
      let c = dot_same (length q) (entries q) (entries (multiplied m x)) (λ k. pos m *ℤ entries x k) (λ k l. entry x k) in
      let d = dot_times (length q) (entries q) (entries x) in
      let e = ap (λ z. pos m *ℤ z) b in
      omega (arith, ints)

  sum_of-enlarged : (us : List (Vector → ℤ)) (x : Vector) → sum_of (enlarged m us) x ≡ pos m *ℤ sum_of us x
  sum_of-enlarged [] x = omega (arith, ints)
  sum_of-enlarged (f ∷ us) x = let a = sum_of-enlarged us x in let b = *ℤ-sum (pos m) (f x) (sum_of us x) in omega (arith, ints)

  sum_at-multiplied : (xs : List (List ℤ)) (i : ℕ) → sum_at (map (multiplied m) xs) i ≡ pos m *ℤ sum_at xs i
  sum_at-multiplied [] i = omega (arith, ints)
  sum_at-multiplied (x ∷ xs) i =
      let a = sum_at-multiplied xs i in
      let b = entry x i in
      let c = *ℤ-sum (pos m) (get_or x i (pos 0)) (sum_at xs i) in
      omega (arith, ints)

  lyapunov-enlarged : (us : List (Vector → ℤ)) (supply : List ℤ) (x : Vector) → lyapunov (enlarged m us) (multiplied m supply) x ≡ pos m *ℤ lyapunov us supply x
  lyapunov-enlarged us supply x =
      let n = length supply in
      let a = lyapunov-is (enlarged m us) (multiplied m supply) x in
      let b = lyapunov-is us supply x in
      let long = ap (λ (k : ℕ). dot_to (suc k) (with_null (multiplied m supply)) x) (length-map supply (λ a. pos m *ℤ a)) in
      let turned = dot-comm (suc n) (with_null (multiplied m supply)) x in
      let c = dot_same (suc n) x (with_null (multiplied m supply)) (λ k. pos m *ℤ with_null supply k) (λ k l. entry_null supply k) in
      let d = dot_times (suc n) x (with_null supply) in
      let back = ap (λ z. pos m *ℤ z) (dot-comm (suc n) x (with_null supply)) in
      let e = sum_of-enlarged us x in
      let f = ap (λ z. pos m *ℤ z) b in
      let g = *ℤ-sum (pos m) (sum_of us x) (dot_to (suc n) (with_null supply) x) in
      omega (arith, ints)

  module _ (some : 1 ≤ m) (us : List (Vector → ℤ)) (supply reserve : List ℤ) where
    size : length (multiplied m supply) ≡ length supply
    size = length-map supply (λ a. pos m *ℤ a)

    many : length (enlarged m us) ≡ length us
    many = length-map us (λ f x. pos m *ℤ f x)

    bundle_at : (bundles : List (List ℤ)) (k : ℕ) → bidder_bundle (map (multiplied m) bundles) k ≡ multiplied m (bidder_bundle bundles k)
    bundle_at bundles k = get_mapped (multiplied m) bundles k []

    utility_at : (k : ℕ) → k < length us → bidder_utility (enlarged m us) k ≡ (λ x. pos m *ℤ bidder_utility us k x)
    utility_at k h = get_or-map {Y = Vector → ℤ} (λ (f : Vector → ℤ) (x : Vector). pos m *ℤ f x) us k (λ x. pos 0) (λ x. pos 0) h

    demanded_times : (n : ℕ) (f : Vector → ℤ) (p b : List ℤ) → IsDemanded n f p b → IsDemanded n (λ x. pos m *ℤ f x) p (multiplied m b)
    demanded_times n f p b d q l =
        let a = product_grows (pos m) (f (with_null p) +ℤ dot_of p b) (f (with_null q) +ℤ dot_of q b) (omega (arith, ints)) (d q l) in
        let u = *ℤ-sum (pos m) (f (with_null p)) (dot_of p b) in
        let v = *ℤ-sum (pos m) (f (with_null q)) (dot_of q b) in
        let s = dot-multiplied p b in
        let t = dot-multiplied q b in
        omega (arith, ints)

    clears-enlarged : (p : List ℤ) (bundles : List (List ℤ)) (returns : List ℤ) → Clears us supply reserve p bundles returns
        → Clears (enlarged m us) (multiplied m supply) reserve p (map (multiplied m) bundles) (multiplied m returns)
    clears-enlarged p bundles returns c = record {
      size = c.size ∙ sym size;
      floor = λ i l. c.floor i (omega (arith, l, size));
      count = length-map bundles (multiplied m) ∙ c.count ∙ sym many;
      sizes = λ k h. ap (λ (x : List ℤ). length x) (bundle_at bundles k) ∙ length-map (bidder_bundle bundles k) (λ a. pos m *ℤ a) ∙ c.sizes k (omega (arith, h, many)) ∙ sym size;
      demanded = λ k h.
          let below : k < length us = omega (arith, h, many) in
          let d = demanded_times (length supply) (bidder_utility us k) p (bidder_bundle bundles k) (c.demanded k below) in
          subst (λ (n : ℕ). IsDemanded n (bidder_utility (enlarged m us) k) p (bidder_bundle (map (multiplied m) bundles) k)) (sym size)
          (subst (λ (x : List ℤ). IsDemanded (length supply) (bidder_utility (enlarged m us) k) p x) (sym (bundle_at bundles k))
          (subst (λ (f : Vector → ℤ). IsDemanded (length supply) f p (multiplied m (bidder_bundle bundles k))) (sym (utility_at k below)) d));
      lawful = record {
        size = length-map returns (λ a. pos m *ℤ a) ∙ c.lawful.size ∙ sym size;
        some = λ i l. let h : i < length supply = omega (arith, l, size) in let e = entry returns i in let p = product_nonnegative (pos m) (get_or returns i (pos 0)) (omega (arith, ints)) (c.lawful.some i h) in omega (arith, ints);
        most = λ i l.
            let h : i < length supply = omega (arith, l, size) in
            let e = entry returns i in
            let f = entry supply i in
            let p = product_grows (pos m) (get_or returns i (pos 0)) (get_or supply i (pos 0)) (omega (arith, ints)) (c.lawful.most i h) in
            omega (arith, ints);
        at_reserve = λ i l q.
            let h : i < length supply = omega (arith, l, size) in
            let e = entry returns i in
            let none : pos m *ℤ pos 0 ≡ pos 0 = omega (arith, ints) in
            c.lawful.at_reserve i h (multiple_below m (pos 0) (get_or returns i (pos 0)) some (omega (arith, ints)));
      };
      sum = λ i l.
          let h : i < length supply = omega (arith, l, size) in
          let a = sum_at-multiplied bundles i in
          let b = entry returns i in
          let d = entry supply i in
          let e = ap (λ z. pos m *ℤ z) (c.sum i h) in
          let f = *ℤ-sum (pos m) (sum_at bundles i) (get_or returns i (pos 0)) in
          omega (arith, ints);
    }

    can-enlarged : (p : List ℤ) → CanClear us supply reserve p → CanClear (enlarged m us) (multiplied m supply) reserve p
    can-enlarged p can = (map (multiplied m) can.0, multiplied m can.1, clears-enlarged p can.0 can.1 can.2)

    pub least-enlarged : (p : List ℤ) → AreLeastClearing us supply reserve p → AreLeastClearing (enlarged m us) (multiplied m supply) reserve p
    least-enlarged p are = record {
      clear = can-enlarged p are.clear;
      least = λ others can i l.
          let same = same-where_clear (enlarged m us) (multiplied m supply) reserve p (can-enlarged p are.clear) others can in
          let a = lyapunov-enlarged us supply (with_null others) in
          let b = lyapunov-enlarged us supply (with_null p) in
          let alike = multiple_same m (lyapunov us supply (with_null others)) (lyapunov us supply (with_null p)) some (omega (arith, ints)) in
          let back = clear-where_same us supply reserve p are.clear others (can.2.size ∙ size)
          (λ k h. above-where_clear (enlarged m us) (multiplied m supply) reserve others can k (omega (arith, h, size))) alike in
          are.least others back i (omega (arith, l, size));
    }
