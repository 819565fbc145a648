-- Bidders in another order: the Lyapunov function is the same, and the same bundles clear.
use Rattle.std.proofs.Common.{◌≡◌, ℕ, ◌<◌, ℤ, pos, ◌+ℤ◌, List, [], ◌∷◌, length, refl, sym, ap, ◌∙◌, arith}
use Rattle.std.proofs.lemmas.Int.{ints}
use Rattle.std.proofs.lemmas.List.{length-map, get_or-map}
use Rattle.mix_num.specs.Vectors.{Vector}
use Rattle.mix_num.specs.Orders.{IsOrder, in_order, place_at}
use Rattle.mix_num.proofs.Orders.{all-in_order, get-in_order, permuted, sum-ordered, sum-permutation, sum_of_all}
use Rattle.mix_law.specs.Demands.{IsDemanded}
use Rattle.mix_market.specs.Lyapunov.{sum_of, lyapunov}
use Rattle.mix_market.proofs.MarketLaws.{lyapunov-is}
use Rattle.mix_law.specs.Clearings.{bidder_utility, bidder_bundle, Clears}
use Rattle.mix_laws.specs.Orders.{utilities_in}

sum_of-all : (fs : List (Vector → ℤ)) (x : Vector) → sum_of fs x ≡ sum_of_all (λ f. f x) fs
sum_of-all [] x = refl
sum_of-all (f ∷ fs) x = ap (λ (a : ℤ). f x +ℤ a) (sum_of-all fs x)

module _ (utilities : List (Vector → ℤ)) (order : List ℕ) (ordered : IsOrder (length utilities) order) where
  -- the utility at a place of the order
  pub utility-in_order : (j : ℕ) → j < length order → bidder_utility (utilities_in order utilities) j ≡ bidder_utility utilities (place_at order j)
  utility-in_order j l = get_or-map (λ k. bidder_utility utilities k) order j 0 (λ x. pos 0) l

  pub sum_of-in_order : (x : Vector) → sum_of (utilities_in order utilities) x ≡ sum_of utilities x
  sum_of-in_order x =
      sum_of-all (utilities_in order utilities) x
      ∙ sum-permutation (λ f. f x) utilities (utilities_in order utilities) (permuted utilities (λ x. pos 0) (length utilities) order refl ordered)
      ∙ sym (sum_of-all utilities x)

  pub lyapunov-in_order : (supply : List ℤ) (x : Vector) → lyapunov (utilities_in order utilities) supply x ≡ lyapunov utilities supply x
  lyapunov-in_order supply x =
      let a = lyapunov-is utilities supply x in
      let b = lyapunov-is (utilities_in order utilities) supply x in
      let c = sum_of-in_order x in
      omega (arith, ints)

  module _ (supply reserve p : List ℤ) (bundles : List (List ℤ)) (returns : List ℤ) (count : length bundles ≡ length utilities) where
    pub clears-in_order : Clears utilities supply reserve p bundles returns → Clears (utilities_in order utilities) supply reserve p (in_order order bundles) returns
    clears-in_order c =
        let us = length-map order (λ k. bidder_utility utilities k) in
        let xs = length-map order (λ k. bidder_bundle bundles k) in
        record {
          size = c.size;
          floor = c.floor;
          count = xs ∙ sym us;
          sizes = λ j l. ap (λ (x : List ℤ). length x) (get-in_order bundles order j (omega arith)) ∙ all-in_order (λ k. length (bidder_bundle bundles k) ≡ length supply) (length utilities) order ordered c.sizes j (omega arith);
          demanded = λ j l.
              let d = all-in_order (λ k. IsDemanded (length supply) (bidder_utility utilities k) p (bidder_bundle bundles k)) (length utilities) order ordered c.demanded j (omega arith) in
              let f = utility-in_order j (omega arith) in
              let x = get-in_order bundles order j (omega arith) in
              rw (f, x) d;
          lawful = c.lawful;
          sum = λ i l. let s = sum-ordered bundles i (length utilities) order count ordered in let t = c.sum i l in omega (arith, ints);
        }
