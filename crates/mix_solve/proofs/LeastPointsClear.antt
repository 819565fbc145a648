-- Some bundles and returns clear at the least point of the Lyapunov function: a supply that lies in the sum of proper tables is shared among them.
use Rattle.std.proofs.Common.{◌≡◌, ◌↔◌, ℕ, zero, suc, ◌+◌, ◌*◌, ◌^◌, ◌<◌, ◌≤◌, ◌⊎◌, inl, inr, ℤ, pos, ◌≤ℤ◌, List, [], ◌∷◌, ◌++◌, length, get_or, take, drop, map, refl, sym, ap, ◌∙◌, subst, arith, eq-or-lt_of_le}
use Rattle.std.proofs.lemmas.Int.{ints}
use Rattle.std.proofs.lemmas.List.{length-append, length-map, get_or-map, get_or_append_left, length-take-le, take-append-drop}
use Rattle.std.proofs.Math.Seq.{drop-cons, drop-length, get_or-append_seam}
use Rattle.mix_num.specs.Vectors.{Vector, sum_to, with_null}
use Rattle.mix_num.specs.Orders.{in_order, places}
use Rattle.mix_num.specs.Sellers.{IsForSale, seller_gain, units}
use Rattle.mix_num.specs.Shares.{AreShares, sum_at, supply_null}
use Rattle.mix_num.specs.Sums.{sum_in}
use Rattle.mix_num.specs.Tables.{IsProper}
use Rattle.mix_law.specs.Demands.{table_of}
use Rattle.mix_law.proofs.MemberTables.{table-proper}
use Rattle.mix_seller.specs.Laws.{seller_l_natural}
use Rattle.mix_market.specs.Lyapunov.{IsLeastPoint, lyapunov}
use Rattle.mix_ties.specs.Shares.{AreProper}
use Rattle.mix_ties.proofs.RowTurns.{proper-turns}
use Rattle.mix_ties.proofs.TieRules.{tie_rule, shares-of_turns}
use Rattle.mix_law.specs.Clearings.{AreLeastClearing, CanClear, bidder_utility}
use Rattle.mix_clearing.specs.Utilities.{KeepLaws}
use Rattle.mix_clearing.proofs.LeastClearing.{least_clearing-where_least_point, least_point-where_least_clearing}
use Rattle.mix_clearing.proofs.LyapunovLaws.{keep_local, lyapunov_keeps_local}
use Rattle.mix_clearing.proofs.Solutions.{clear-where_shared, in_order-places, places-order, supply-within_tables, tables_at-places}
use Rattle.mix_clearing.proofs.TableLists.{table_of-is}

-- the seller's total, all units of at most 8 goods, is at most 8,000,000
units-most : (m : ℕ) (x : Vector) → ((k : ℕ) → k < m → x k ≤ℤ pos 1000000) → sum_to m x ≤ℤ pos (1000000 * m)
units-most zero x h = omega (arith, ints)
units-most (suc m) x h = let a = units-most m x (λ k l. h k (omega arith)) in let b = h m (omega arith) in omega (arith, ints)

units_few : (supply reserve : List ℤ) → IsForSale supply reserve → units supply ≤ℤ pos 8000000
units_few supply reserve sale =
    let most = units-most (length supply) (λ k. with_null supply (suc k)) (λ k l. (sale.supplies.1 k (pos 0) l).1) in
    let few = sale.few in
    omega (arith, ints)

-- a list of one more than m is m of them and the last
last-apart : (xs : List (List ℤ)) (m : ℕ) → length xs ≡ suc m → xs ≡ take m xs ++ get_or xs m [] ∷ []
last-apart xs m e =
    let none : drop (suc m) xs ≡ [] = ap (λ (k : ℕ). drop k xs) (sym e) ∙ drop-length xs in
    sym (take-append-drop m xs) ∙ ap (λ ys. take m xs ++ ys) (drop-cons xs m [] (omega arith)) ∙ ap (λ ys. take m xs ++ get_or xs m [] ∷ ys) none

module _ (utilities : List (Vector → ℤ)) (supply reserve p : List ℤ) (laws : KeepLaws (length supply) utilities) (few : (k : ℕ) (l : k < length utilities) → (laws k l).total ≤ℤ pos 8000000)
    (sale : IsForSale supply reserve) where
  abbrev n : ℕ
  n = length supply

  abbrev m : ℕ
  m = length utilities

  abbrev bidders : List (List ℤ)
  bidders = map (λ f. table_of n f p) utilities

  abbrev seller : List ℤ
  seller = table_of n (seller_gain supply reserve) p

  abbrev rows : List (List ℤ)
  rows = bidders ++ seller ∷ []

  bidders-count : length bidders ≡ m
  bidders-count = length-map utilities (λ f. table_of n f p)

  rows-count : length rows ≡ suc m
  rows-count = length-append bidders (seller ∷ []) ∙ (let e : length bidders + 1 ≡ suc m = omega (arith, bidders-count) in e)

  row-proper : (k : ℕ) → (k ≡ m) ⊎ (k < m) → IsProper n (get_or rows k [])
  row-proper k (inl e) =
      let last : get_or rows k [] ≡ seller = ap (λ (j : ℕ). get_or rows j []) (e ∙ sym bidders-count) ∙ get_or-append_seam bidders seller [] [] in
      subst (IsProper n) (sym last) (table-proper (seller_l_natural supply reserve sale) sale.some p seller (units_few supply reserve sale) (table_of-is n (seller_gain supply reserve) p))
  row-proper k (inr l) =
      let own : get_or rows k [] ≡ table_of n (bidder_utility utilities k) p = get_or_append_left bidders (seller ∷ []) [] k (omega (arith, l, bidders-count)) ∙ get_or-map (λ f. table_of n f p) utilities k (λ x. pos 0) [] l in
      subst (IsProper n) (sym own) (table-proper (laws k l).l_natural sale.some p (table_of n (bidder_utility utilities k) p) (few k l) (table_of-is n (bidder_utility utilities k) p))

  rows-proper : AreProper n rows
  rows-proper k h = row-proper k (eq-or-lt_of_le (let le : k ≤ m = omega (arith, h, rows-count) in le))

  module _ (long : length p ≡ length supply) (least : IsLeastPoint (length supply) (lyapunov utilities supply) (with_null reserve) (with_null p)) where
    shared : (bundles : List (List ℤ)) × AreShares n rows bundles supply
    shared =
        let within = supply-within_tables utilities supply reserve p (places m) laws sale (places-order m) long least in
        let P : List (List ℤ) → Type 0 = λ rs. (set : ℕ) → set < 2 ^ suc n → sum_in (supply_null n rs supply ∷ supply) set ≤ℤ sum_at rs set in
        let r = tie_rule n rows supply refl (proper-turns n rows rows-proper) (subst P (tables_at-places utilities supply reserve p) within) in
        (_, shares-of_turns n rows _ supply refl r.0)

    pub can_clear-where_least_point : CanClear utilities supply reserve p
    can_clear-where_least_point =
        let size : length shared.0 ≡ suc m = shared.1.count ∙ rows-count in
        let bundles : List (List ℤ) = take m shared.0 in
        let returns : List ℤ = get_or shared.0 m [] in
        let count : length bundles ≡ m = length-take-le m shared.0 (omega (arith, size)) in
        let split = subst (λ (xs : List (List ℤ)). AreShares n rows xs supply) (last-apart shared.0 m size) shared.1 in
        let placed = subst (λ (xs : List (List ℤ)). AreShares n rows (xs ++ returns ∷ []) supply) (sym (in_order-places bundles m count)) split in
        let filled = subst (λ (rs : List (List ℤ)). AreShares n rs (in_order (places m) bundles ++ returns ∷ []) supply) (sym (tables_at-places utilities supply reserve p)) placed in
        (bundles, returns, clear-where_shared utilities supply reserve p (places m) laws sale (places-order m) long least bundles returns count filled)

  -- so the least point is the least clearing prices, and the least clearing prices are the least point
  pub least_point-exactly : length p ≡ length supply → IsLeastPoint n (lyapunov utilities supply) (with_null reserve) (with_null p) ↔ AreLeastClearing utilities supply reserve p
  least_point-exactly long = (
    (λ least. least_clearing-where_least_point utilities supply reserve p least (can_clear-where_least_point long least)),
    least_point-where_least_clearing utilities supply reserve p (lyapunov_keeps_local utilities supply (keep_local n utilities laws)).1.reads,
  )
