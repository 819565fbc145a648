-- Rows that are filled one after the other, with the members' tables in an order and then the seller's.
use Rattle.std.proofs.Common.{◌≡◌, ◌≢◌, ℕ, suc, ◌+◌, ◌<◌, ◌≤◌, ◌⊎◌, inl, inr, ℤ, pos, List, [], ◌∷◌, ◌++◌, length, get_or, map, sym, ap, ◌∙◌, subst, arith, eq-or-lt_of_le}
use Rattle.std.proofs.lemmas.List.{ext_get_or, get_or-map, get_or_append_left, length-append, length-map}
use Rattle.std.proofs.Math.Seq.{get_or-append_seam}
use Rattle.mix_num.specs.Vectors.{Vector}
use Rattle.mix_num.specs.Orders.{IsOrder, in_order, place_at}
use Rattle.mix_num.proofs.Orders.{get-in_order, place_below}
use Rattle.mix_num.specs.Sellers.{seller_gain}
use Rattle.mix_law.specs.Demands.{IsTableOf, table_of}
use Rattle.mix_law.specs.Certificates.{tables_at}
use Rattle.mix_law.specs.Clearings.{bidder_utility}
use Rattle.mix_clearing.proofs.TableLists.{is-table_of}

-- the rows before k, and the one at k that was set just now
pub one_more_row : (P : ℕ → List ℤ → Type 0) (old new : List (List ℤ)) (k : ℕ) → ((j : ℕ) → j < k → P j (get_or old j [])) → P k (get_or new k [])
    → ((j : ℕ) → j ≢ k → get_or new j [] ≡ get_or old j []) → (j : ℕ) → j < k + 1 → P j (get_or new j [])
one_more_row P old new k before here others j h = at (eq-or-lt_of_le (let le : j ≤ k = omega arith in le))
  where
    at : (j ≡ k) ⊎ (j < k) → P j (get_or new j [])
    at (inl e) = subst (λ (i : ℕ). P i (get_or new i [])) (sym e) here
    at (inr l) = subst (P j) (sym (others j (omega arith))) (before j l)

module _ (utilities : List (Vector → ℤ)) (supply reserve p : List ℤ) (order : List ℕ) (rows : List (List ℤ)) (ordered : IsOrder (length utilities) order) (count : length rows ≡ suc (length order))
    (each : (k : ℕ) → k < length order → IsTableOf (length supply) (bidder_utility utilities (place_at order k)) p (get_or rows k []))
    (last : IsTableOf (length supply) (seller_gain supply reserve) p (get_or rows (length order) [])) where
  abbrev tables : List (List ℤ)
  tables = map (λ f. table_of (length supply) f p) utilities

  abbrev seller : List ℤ
  seller = table_of (length supply) (seller_gain supply reserve) p

  size : length (in_order order tables) ≡ length order
  size = length-map order (λ k. get_or tables k [])

  same : (k : ℕ) → (k ≡ length order) ⊎ (k < length order) → get_or rows k [] ≡ get_or (in_order order tables ++ seller ∷ []) k []
  same k (inl e) =
      ap (λ (j : ℕ). get_or rows j []) e
      ∙ is-table_of (length supply) (seller_gain supply reserve) p (get_or rows (length order) []) last
      ∙ sym (get_or-append_seam (in_order order tables) seller [] [])
      ∙ ap (λ (j : ℕ). get_or (in_order order tables ++ seller ∷ []) j []) (size ∙ sym e)
  same k (inr l) =
      is-table_of (length supply) (bidder_utility utilities (place_at order k)) p (get_or rows k []) (each k l)
      ∙ sym (get_or-map (λ f. table_of (length supply) f p) utilities (place_at order k) (λ x. pos 0) [] (place_below (length utilities) order k ordered l))
      ∙ sym (get-in_order tables order k l)
      ∙ sym (get_or_append_left (in_order order tables) (seller ∷ []) [] k (omega (arith, l, size)))

  -- all rows together are the tables of the market
  pub rows-tables : rows ≡ tables_at utilities supply reserve p order
  rows-tables =
      ext_get_or [] rows (in_order order tables ++ seller ∷ [])
      (count ∙ sym (length-append (in_order order tables) (seller ∷ []) ∙ (let e : length (in_order order tables) + 1 ≡ suc (length order) = omega (arith, size) in e)))
      (λ k l. same k (eq-or-lt_of_le (let le : k ≤ length order = omega (arith, l, count) in le)))
