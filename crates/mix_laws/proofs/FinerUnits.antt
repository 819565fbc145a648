-- In a finer unit of money, in which every price, value and reserve is d times as many units, the least clearing prices are d times as many.
use Rattle.std.proofs.Common.{◌≡◌, ℕ, suc, ◌≤◌, ◌<◌, ℤ, pos, ◌*ℤ◌, List, length, get_or, sym, ap, subst, ◌∙◌, arith}
use Rattle.std.proofs.lemmas.Int.{ints}
use Rattle.std.proofs.lemmas.List.{get_or-map, length-map}
use Rattle.mix_num.specs.Vectors.{Vector, members, with_null}
use Rattle.mix_num.proofs.Products.{product_grows}
use Rattle.mix_law.specs.Clearings.{AreLeastClearing, Clears, bidder_bundle, bidder_utility}
use Rattle.mix_law.specs.Demands.{IsDemanded, IsTableOf, table_of}
use Rattle.mix_law.specs.Members.{KeepsLaws, rho}
use Rattle.mix_law.specs.Scales.{KeepsScales}
use Rattle.mix_law.proofs.Demanded.{demanded-where_fits, fits-where_demanded}
use Rattle.mix_clearing.specs.Scales.{KeepScales, at_scale, multiplied}
use Rattle.mix_clearing.specs.Utilities.{KeepLaws}
use Rattle.mix_clearing.proofs.Fractions.{least_of_fractions-where_least_clearing, with_null-multiplied}
use Rattle.mix_clearing.proofs.TableLists.{table_of-is}

module _ (d : ℕ) (some : 1 ≤ d) where
  entry : (xs : List ℤ) (i : ℕ) → get_or (multiplied d xs) i (pos 0) ≡ pos d *ℤ get_or xs i (pos 0)
  entry xs i = ap (λ (z : Vector). z (suc i)) (with_null-multiplied d xs)

  long : (xs : List ℤ) → length (multiplied d xs) ≡ length xs
  long xs = length-map xs (λ a. pos d *ℤ a)

  -- one member's bundle is demanded there too, since its table is the same
  demanded_finer : (n : ℕ) (f : ℕ → Vector → ℤ) (p bundle : List ℤ) → KeepsScales n f → KeepsLaws n (f 1) → KeepsLaws n (f d) → length p ≡ n → length bundle ≡ n
      → IsDemanded n (f 1) p bundle → IsDemanded n (f d) (multiplied d p) bundle
  demanded_finer n f p bundle scales once finer size width demanded =
      let table : List ℤ = table_of n (f 1) p in
      let own = table_of-is n (f 1) p in
      let fits = fits-where_demanded once.l_natural p table bundle size width own demanded in
      let same : IsTableOf n (f d) (multiplied d p) table = record {
        size = own.size;
        numbers = λ set l.
            own.numbers set l ∙ sym (scales.rises d some (with_null p) (members set))
            ∙ ap (λ (z : Vector). rho (f d) z (members set)) (sym (with_null-multiplied d p));
      } in
      demanded-where_fits finer.l_natural (multiplied d p) table bundle (long p ∙ size) width same fits

  module _ (us : List (ℕ → Vector → ℤ)) (supply reserve : List ℤ) (scales : KeepScales (length supply) us) (once : KeepLaws (length supply) (at_scale 1 us))
      (finer : KeepLaws (length supply) (at_scale d us)) where
    count_at : (e : ℕ) → length (at_scale e us) ≡ length us
    count_at e = length-map us (λ (f : ℕ → Vector → ℤ). f e)

    utility_at : (e k : ℕ) → k < length us → bidder_utility (at_scale e us) k ≡ get_or us k (λ c x. pos 0) e
    utility_at e k h = get_or-map (λ (f : ℕ → Vector → ℤ). f e) us k (λ c x. pos 0) (λ x. pos 0) h

    clears-finer : (p : List ℤ) (bundles : List (List ℤ)) (returns : List ℤ) → Clears (at_scale 1 us) supply reserve p bundles returns
        → Clears (at_scale d us) supply (multiplied d reserve) (multiplied d p) bundles returns
    clears-finer p bundles returns c = record {
      size = long p ∙ c.size;
      floor = λ i l.
          let a = entry reserve i in
          let b = entry p i in
          let g = product_grows (pos d) (get_or reserve i (pos 0)) (get_or p i (pos 0)) (omega (arith, ints)) (c.floor i l) in
          omega (arith, ints);
      count = c.count ∙ count_at 1 ∙ sym (count_at d);
      sizes = λ k h. c.sizes k (omega (arith, h, count_at 1, count_at d));
      demanded = λ k h.
          let below : k < length us = omega (arith, h, count_at d) in
          let there : k < length (at_scale 1 us) = omega (arith, below, count_at 1) in
          let n = length supply in
          let f : ℕ → Vector → ℤ = get_or us k (λ c x. pos 0) in
          let first = subst (λ (g : Vector → ℤ). IsDemanded n g p (bidder_bundle bundles k)) (utility_at 1 k below) (c.demanded k there) in
          let law = subst (KeepsLaws n) (utility_at 1 k below) (once k there) in
          let law_finer = subst (KeepsLaws n) (utility_at d k below) (finer k h) in
          subst (λ (g : Vector → ℤ). IsDemanded n g (multiplied d p) (bidder_bundle bundles k)) (sym (utility_at d k below))
          (demanded_finer n f p (bidder_bundle bundles k) (scales k below) law law_finer c.size (c.sizes k there) first);
      lawful = record {
        size = c.lawful.size;
        some = c.lawful.some;
        most = c.lawful.most;
        at_reserve = λ i l q. entry p i ∙ ap (λ (z : ℤ). pos d *ℤ z) (c.lawful.at_reserve i l q) ∙ sym (entry reserve i);
      };
      sum = c.sum;
    }

    pub least-finer : (p : List ℤ) → AreLeastClearing (at_scale 1 us) supply reserve p → AreLeastClearing (at_scale d us) supply (multiplied d reserve) (multiplied d p)
    least-finer p are = record {
      clear = (are.clear.0, are.clear.1, clears-finer p are.clear.0 are.clear.1 are.clear.2);
      least = λ others can i l.
          let a = least_of_fractions-where_least_clearing us supply scales reserve p are d some others can i l in
          let b = entry p i in
          omega (arith, ints);
    }
