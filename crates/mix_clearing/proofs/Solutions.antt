-- At the least point of the Lyapunov function the supply can be shared among the members' tables, and what shares it there with tight pairs is a solution.
use Rattle.std.proofs.Common.{◌≡◌, ℕ, suc, ◌^◌, ◌<◌, ℤ, pos, ◌≤ℤ◌, ◌-ℤ◌, List, [], ◌∷◌, ◌++◌, length, get_or, map, take, drop, sym, ap, subst, arith}
use Rattle.std.proofs.lemmas.List.{get_or_append_left, length-map, take-append-le}
use Rattle.std.proofs.lemmas.List.Sorted.{IsPermutation-refl}
use Rattle.mix_num.specs.Vectors.{Vector, with_null}
use Rattle.mix_num.specs.Sellers.{IsForSale, seller_gain}
use Rattle.mix_num.specs.Sums.{sum_in}
use Rattle.mix_num.specs.Shares.{AreShares, sum_at, supply_null}
use Rattle.mix_num.specs.Orders.{IsOrder, in_order, places}
use Rattle.mix_num.specs.Pairs.{HasTight, IsFirstTight, IsFirstTightOf, floor_at, shares_in}
use Rattle.mix_num.proofs.Orders.{in-places, length-order}
use Rattle.mix_law.specs.Demands.{table_of}
use Rattle.mix_market.specs.Lyapunov.{IsLeastPoint, lyapunov}
use Rattle.mix_law.specs.Clearings.{Clears, IsSolution}
use Rattle.mix_law.specs.Certificates.{IsFirstTightPair, tables_at}
use Rattle.mix_clearing.specs.Utilities.{KeepLaws}
use Rattle.mix_clearing.proofs.LeastClearing.{least_clearing-where_least_point}
use Rattle.mix_clearing.proofs.PriceLists.{floor-where_below}
use Rattle.mix_clearing.proofs.SupplyDemanded.{supply-within}
use Rattle.mix_clearing.proofs.TieRules.{clears-where_shares, pairs_keep_rule}

-- the returns, which stand last, count for no bidder's first tight pair
first_tight-of_bidders : (n : ℕ) (rows bundles : List (List ℤ)) (returns supply : List ℤ) (k j upper lower : ℕ) → k < length bundles
    → IsFirstTightOf n rows supply (bundles ++ returns ∷ []) k j upper lower → IsFirstTightOf n rows supply bundles k j upper lower
first_tight-of_bidders n rows bundles returns supply k j upper lower h t =
    let same : take k (bundles ++ returns ∷ []) ≡ take k bundles = take-append-le k bundles (returns ∷ []) (omega arith) in
    let mine : get_or (bundles ++ returns ∷ []) k [] ≡ get_or bundles k [] = get_or_append_left bundles (returns ∷ []) [] k h in
    let F : List (List ℤ) → ℕ → ℤ = λ w set. (sum_in (supply_null n rows supply ∷ supply) set -ℤ shares_in n (take k rows) w set) -ℤ sum_at (drop (suc k) rows) set in
    let floor : floor_at n rows supply (bundles ++ returns ∷ []) k ≡ floor_at n rows supply bundles k = ap F same in
    subst (λ (x : List ℤ). IsFirstTight n j (get_or rows k []) (floor_at n rows supply bundles k) x upper lower) mine
    (subst (λ (f : ℕ → ℤ). IsFirstTight n j (get_or rows k []) f (get_or (bundles ++ returns ∷ []) k []) upper lower) floor t)

module _ (utilities : List (Vector → ℤ)) (supply reserve p : List ℤ) (order : List ℕ) (laws : KeepLaws (length supply) utilities) (sale : IsForSale supply reserve)
    (ordered : IsOrder (length utilities) order) (long : length p ≡ length supply) (least : IsLeastPoint (length supply) (lyapunov utilities supply) (with_null reserve) (with_null p)) where
  abbrev n : ℕ
  n = length supply

  abbrev rows : List (List ℤ)
  rows = tables_at utilities supply reserve p order

  floor : (i : ℕ) → i < n → get_or reserve i (pos 0) ≤ℤ get_or p i (pos 0)
  floor = floor-where_below n reserve p least.above

  stock : (i : ℕ) → i < n → pos 0 ≤ℤ get_or supply i (pos 0)
  stock i h = (sale.supplies.1 i (pos 0) h).0

  -- at the least point no set has more of the supply than the tables allow
  pub supply-within_tables : (set : ℕ) → set < 2 ^ suc n → sum_in (supply_null n rows supply ∷ supply) set ≤ℤ sum_at rows set
  supply-within_tables = supply-within utilities supply reserve p laws sale long least.above least.least order ordered

  module _ (bundles : List (List ℤ)) (returns : List ℤ) (count : length bundles ≡ length utilities) (shares : AreShares n rows (in_order order bundles ++ returns ∷ []) supply) where
    -- what shares it clears
    pub clear-where_shared : Clears utilities supply reserve p bundles returns
    clear-where_shared = clears-where_shares utilities supply reserve p order laws ordered stock long floor bundles returns count shares

    module _ (first : ℕ → ℕ → ℕ) (second : ℕ → ℕ → ℕ)
        (tights : (k j : ℕ) → k < length utilities → j < n → IsFirstTightOf n rows supply (in_order order bundles ++ returns ∷ []) k j (first k j) (second k j)) where
      bidders-count : (k : ℕ) → k < length utilities → k < length (in_order order bundles)
      bidders-count k h = omega (arith, h, length-map order (λ k. get_or bundles k []), length-order (length utilities) order ordered)

      -- the pairs are the first tight ones
      pub first_tights-where_shared : (k j : ℕ) → k < length utilities → j < n → IsFirstTightPair utilities supply reserve p order bundles k j (first k j) (second k j)
      first_tights-where_shared k j h l = first_tight-of_bidders n rows (in_order order bundles) returns supply k j (first k j) (second k j) (bidders-count k h) (tights k j h l)

      tight : (k j : ℕ) → k < length order → j < n → HasTight n rows supply (in_order order bundles) k j
      tight k j h l = (first k j, second k j, (first_tights-where_shared k j (omega (arith, h, length-order (length utilities) order ordered)) l).tight)

      -- and the least point, with the bundles and the returns, is a solution
      pub solution-where_shared : IsSolution utilities supply reserve order p bundles returns
      solution-where_shared = record {
        least = least_clearing-where_least_point utilities supply reserve p least (bundles, returns, clear-where_shared);
        clear = clear-where_shared;
        rule = pairs_keep_rule utilities supply reserve p order laws ordered stock bundles clear-where_shared.sizes tight;
      }

-- ---- the bidders in the order of their places
pub places-order : (m : ℕ) → IsOrder m (places m)
places-order m = IsPermutation-refl (places m)

pub in_order-places : (lists : List (List ℤ)) (m : ℕ) → length lists ≡ m → in_order (places m) lists ≡ lists
in_order-places lists m e = sym (in-places lists [] m e)

-- their tables as they stand, the seller's last
pub tables_at-places : (utilities : List (Vector → ℤ)) (supply reserve p : List ℤ)
    → tables_at utilities supply reserve p (places (length utilities)) ≡ map (λ f. table_of (length supply) f p) utilities ++ table_of (length supply) (seller_gain supply reserve) p ∷ []
tables_at-places utilities supply reserve p =
    ap (λ (tables : List (List ℤ)). tables ++ table_of (length supply) (seller_gain supply reserve) p ∷ [])
    (in_order-places (map (λ f. table_of (length supply) f p) utilities) (length utilities) (length-map utilities (λ f. table_of (length supply) f p)))
