-- Bundles and returns share the supply among the members' tables exactly where they clear; and where each bidder and good has a tight pair, the bundles
-- keep the tie rule.
use Rattle.std.proofs.Common.{◌≡◌, ℕ, ◌+◌, ◌<◌, ◌≤◌, ℤ, pos, ◌≤ℤ◌, List, [], ◌∷◌, ◌++◌, length, get_or, map, sym, refl, ap, ◌∙◌, subst, arith, ⊎_elim, eq-or-lt_of_le, length-append}
use Rattle.std.proofs.lemmas.Int.{ints}
use Rattle.std.proofs.lemmas.List.{length-map, get_or_append_left, get_or-map}
use Rattle.std.proofs.Math.Seq.{get_or-append_seam}
use Rattle.mix_num.specs.Vectors.{Vector}
use Rattle.mix_num.specs.Sellers.{seller_gain}
use Rattle.mix_num.specs.Tables.{Fits, IsLexAtMost}
use Rattle.mix_num.specs.Shares.{AreShares}
use Rattle.mix_num.specs.Orders.{IsOrder, in_order, place_at}
use Rattle.mix_num.specs.Pairs.{HasTight, tables_in}
use Rattle.mix_num.proofs.Orders.{all-where_in_order, get-in_order, place_below, sum-append, sum-ordered}
use Rattle.mix_num.proofs.PairRules.{greatest_with_pairs}
use Rattle.mix_law.specs.Demands.{IsTableOf, table_of}
use Rattle.mix_law.proofs.Demanded.{demanded-where_fits, fits-where_demanded}
use Rattle.mix_seller.proofs.SellerRows.{fits-where_lawful, lawful-where_fits}
use Rattle.mix_law.specs.Clearings.{Clears, KeepsTieRule, bidder_bundle, bidder_utility}
use Rattle.mix_law.specs.Certificates.{tables_at}
use Rattle.mix_clearing.specs.Utilities.{KeepLaws}
use Rattle.mix_clearing.proofs.TableLists.{table_of-is}

module _ (utilities : List (Vector → ℤ)) (supply reserve prices : List ℤ) (order : List ℕ)
    (laws : KeepLaws (length supply) utilities) (ordered : IsOrder (length utilities) order) (stock : (i : ℕ) → i < length supply → pos 0 ≤ℤ get_or supply i (pos 0)) where
  -- the bidders' tables as they stand, and the seller's
  abbrev tables : List (List ℤ)
  tables = map (λ f. table_of (length supply) f prices) utilities

  abbrev seller : List ℤ
  seller = table_of (length supply) (seller_gain supply reserve) prices

  is_table : (k : ℕ) → k < length utilities → IsTableOf (length supply) (bidder_utility utilities k) prices (get_or tables k [])
  is_table k l =
      subst (λ (t : List ℤ). IsTableOf (length supply) (bidder_utility utilities k) prices t) (sym (get_or-map (λ f. table_of (length supply) f prices) utilities k (λ x. pos 0) [] l))
      (table_of-is (length supply) (bidder_utility utilities k) prices)

  -- the bidders' rows in the order, then the seller's
  rows-size : length (in_order order tables) ≡ length order
  rows-size = length-map order (λ i. get_or tables i [])

  own-row : (k : ℕ) → k < length order → get_or (tables_in order tables seller) k [] ≡ get_or tables (place_at order k) []
  own-row k q = get_or_append_left (in_order order tables) (seller ∷ []) [] k (omega (arith, q, rows-size)) ∙ get-in_order tables order k q

  last-row : (k : ℕ) → k ≡ length order → get_or (tables_in order tables seller) k [] ≡ seller
  last-row k e = ap (λ (j : ℕ). get_or (tables_in order tables seller) j []) (e ∙ sym rows-size) ∙ get_or-append_seam (in_order order tables) seller [] []

  rows-count : length (tables_in order tables seller) ≡ length order + 1
  rows-count = omega (arith, length-append (in_order order tables) (seller ∷ []), rows-size)

  module _ (bundles : List (List ℤ)) (returns : List ℤ) where
    -- and the bundles with the returns
    bundles-size : length (in_order order bundles) ≡ length order
    bundles-size = length-map order (λ i. get_or bundles i [])

    own-bundle : (k : ℕ) → k < length order → get_or (in_order order bundles ++ returns ∷ []) k [] ≡ get_or bundles (place_at order k) []
    own-bundle k q = get_or_append_left (in_order order bundles) (returns ∷ []) [] k (omega (arith, q, bundles-size)) ∙ get-in_order bundles order k q

    last-bundle : (k : ℕ) → k ≡ length order → get_or (in_order order bundles ++ returns ∷ []) k [] ≡ returns
    last-bundle k e = ap (λ (j : ℕ). get_or (in_order order bundles ++ returns ∷ []) j []) (e ∙ sym bundles-size) ∙ get_or-append_seam (in_order order bundles) returns [] []

  -- what clears is a share of the tables in the order, the seller's last
  pub shares-where_clears : (bundles : List (List ℤ)) (returns : List ℤ) → Clears utilities supply reserve prices bundles returns
      → AreShares (length supply) (tables_at utilities supply reserve prices order) (in_order order bundles ++ returns ∷ []) supply
  shares-where_clears bundles returns c = record {
    count = omega (arith, length-append (in_order order bundles) (returns ∷ []), rows-count, bundles-size bundles returns);
    fit = λ k l. ⊎_elim last other (eq-or-lt_of_le (let h : k ≤ length order = omega (arith, l, rows-count) in h));
    sum = λ i l. let a = sum-append (in_order order bundles) returns i in let b = sum-ordered bundles i (length utilities) order c.count ordered in let d = c.sum i l in omega (arith, ints);
  }
    where
      last : {k : ℕ} → k ≡ length order → Fits (length supply) (get_or (tables_in order tables seller) k []) (get_or (in_order order bundles ++ returns ∷ []) k [])
      last {k} e =
          let a = last-row k e in
          let b = last-bundle bundles returns k e in
          rw (a, b) (fits-where_lawful supply reserve prices seller returns c.lawful.size c.floor stock (table_of-is (length supply) (seller_gain supply reserve) prices) c.lawful)

      other : {k : ℕ} → k < length order → Fits (length supply) (get_or (tables_in order tables seller) k []) (get_or (in_order order bundles ++ returns ∷ []) k [])
      other {k} q =
          let place = place_at order k in
          let below : place < length utilities = place_below (length utilities) order k ordered q in
          let a = own-row k q in
          let b = own-bundle bundles returns k q in
          rw (a, b) (fits-where_demanded (laws place below).l_natural prices (get_or tables place []) (get_or bundles place []) c.size (c.sizes place below) (is_table place below) (c.demanded place below))

  -- and where bundles and returns share the supply among these tables, at prices at or above the reserves, they clear
  pub clears-where_shares : length prices ≡ length supply → ((i : ℕ) → i < length supply → get_or reserve i (pos 0) ≤ℤ get_or prices i (pos 0))
      → (bundles : List (List ℤ)) (returns : List ℤ) → length bundles ≡ length utilities
      → AreShares (length supply) (tables_at utilities supply reserve prices order) (in_order order bundles ++ returns ∷ []) supply → Clears utilities supply reserve prices bundles returns
  clears-where_shares long floor bundles returns count s = record {
    size = long;
    floor = floor;
    count = count;
    sizes = λ k h. (each k h).size;
    demanded = λ k h. demanded-where_fits (laws k h).l_natural prices (get_or tables k []) (bidder_bundle bundles k) long (each k h).size (is_table k h) (each k h);
    lawful = lawful-where_fits supply reserve prices seller returns last.size floor stock (table_of-is (length supply) (seller_gain supply reserve) prices) last;
    sum = λ i l. let a = sum-append (in_order order bundles) returns i in let b = sum-ordered bundles i (length utilities) order count ordered in let d = s.sum i l in omega (arith, ints);
  }
    where
      fits-at : (k : ℕ) (table bundle : List ℤ) → k ≤ length order → get_or (tables_in order tables seller) k [] ≡ table → get_or (in_order order bundles ++ returns ∷ []) k [] ≡ bundle → Fits (length supply) table bundle
      fits-at k table bundle h a b =
          let f = s.fit k (omega (arith, h, rows-count)) in
          subst (λ (t : List ℤ). Fits (length supply) t bundle) a (subst (λ (x : List ℤ). Fits (length supply) (get_or (tables_in order tables seller) k []) x) b f)

      last : Fits (length supply) seller returns
      last = fits-at (length order) seller returns (omega arith) (last-row (length order) refl) (last-bundle bundles returns (length order) refl)

      each : (k : ℕ) → k < length utilities → Fits (length supply) (get_or tables k []) (bidder_bundle bundles k)
      each = all-where_in_order (λ k. Fits (length supply) (get_or tables k []) (bidder_bundle bundles k)) (length utilities) order ordered
          (λ j q. fits-at j (get_or tables (place_at order j) []) (get_or bundles (place_at order j) []) (omega arith) (own-row j q) (own-bundle bundles returns j q))

  -- where each bidder in the order has for each good a pair whose number is what it has of the good, the bundles keep the tie rule
  pub pairs_keep_rule : (bundles : List (List ℤ)) → ((k : ℕ) → k < length utilities → length (bidder_bundle bundles k) ≡ length supply)
      → ((k j : ℕ) → k < length order → j < length supply → HasTight (length supply) (tables_at utilities supply reserve prices order) supply (in_order order bundles) k j)
      → KeepsTieRule utilities supply reserve prices order bundles
  pairs_keep_rule bundles sizes tight k l others returns c before =
      let place = place_at order k in
      let below : place < length utilities = place_below (length utilities) order k ordered l in
      let mine : get_or (in_order order bundles) k [] ≡ get_or bundles place [] = get-in_order bundles order k l in
      let theirs = own-bundle others returns in
      let r = greatest_with_pairs (length supply) (tables_in order tables seller) (in_order order bundles) (in_order order others ++ returns ∷ []) supply k
      refl (omega (arith, l, length-map order (λ i. get_or bundles i []))) (omega (arith, l, rows-count))
      (ap length mine ∙ sizes place below) (λ j h. tight k j l h)
      (shares-where_clears others returns c)
      (λ i h. theirs i (omega arith) ∙ before i h ∙ sym (get-in_order bundles order i (omega arith))) in
      subst (λ (w : List ℤ). IsLexAtMost (get_or others place []) w) mine (subst (λ (w : List ℤ). IsLexAtMost w (get_or (in_order order bundles) k [])) (theirs k l) r)
