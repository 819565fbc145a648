-- The printed row of the tie order is read as that order.
use Rattle.std.proofs.Common.{◌≡◌, ◌≢◌, ◌∙◌, sym, ap, refl, subst, ◌<◌, ◌≤◌, ◌+◌, ◌-◌, ◌==◌, ◌&&◌, Bool, true, false, inl, inr, ℕ, suc, List, [], ◌∷◌, ◌++◌, map, length, get_or, append_assoc, append-nil, arith, Ok}
use Rattle.std.proofs.lemmas.Bool.{cases_Bool, false_from_ne_true}
use Rattle.std.proofs.lemmas.Bool.Decides.{nat_tests}
use Rattle.std.proofs.lemmas.List.{get_or_append_left, get_or-append_right, length-append, length-map}
use Rattle.mix_num.specs.Orders.{place_at}
use Rattle.mix_text.specs.Auctions.{AuctionText, IsAuction}
use Rattle.mix_text.specs.Bidders.{Named, name_at, names_at}
use Rattle.mix_text.specs.Formats.{has_caps, has_order}
use Rattle.mix_text.specs.Names.{AreNames}
use Rattle.mix_text.specs.Orders.{IsTieOrder, is_served}
use Rattle.mix_text.specs.Reading.{end_from, end_of, ends_bids, is_cap_row, order_from, order_row_of, served_after}
use Rattle.mix_text.specs.Rows.{RowText, numbered}
use Rattle.mix_text.specs.SharedRows.{end_row, order_row, order_rows}
use Rattle.mix_text.proofs.OwnPlaces.{bidder_found}

-- different places, in a list after those seen
abbrev AreApart : List ℕ → Type 0
AreApart order = (i j : ℕ) → i < j → j < length order → place_at order i ≢ place_at order j

-- a place that is none of these isn't among them
unserved : (k : ℕ) (order : List ℕ) → ((i : ℕ) → i < length order → place_at order i ≢ k) → is_served k order ≡ false
unserved k [] h = refl
unserved k (j ∷ order) h =
    let here : (j == k) ≡ false = let other = h 0 (omega arith) in false_from_ne_true (j == k) (λ t. other (grind (arith, nat_tests))) in
    rw here (unserved k order (λ i l. h (suc i) (omega (arith, l))))

served_read : (bidders : Named) (seen order : List ℕ) → AreNames (map (λ bidder. bidder.0) bidders) → ((i : ℕ) → i < length order → place_at order i < length bidders) → AreApart (seen ++ order)
    → served_after bidders seen (names_at bidders order) ≡ Ok (seen ++ order)
served_read bidders seen [] names below apart = ap Ok (sym (append-nil seen))
served_read bidders seen (k ∷ order) names below apart =
    let found = bidder_found bidders k names (below 0 (omega arith)) in
    let size = length-append seen (k ∷ order) in
    let at_end : place_at (seen ++ k ∷ order) (length seen) ≡ k = get_or-append_right seen (k ∷ order) (length seen) (length seen) 0 refl (omega arith) ∙ ap (λ (i : ℕ). get_or (k ∷ order) i 0) (none (length seen)) in
    let new = unserved k seen (λ i l e. apart i (length seen) l (omega (arith, size)) (get_or_append_left seen (k ∷ order) 0 i l ∙ e ∙ sym at_end)) in
    let regroup = append_assoc seen (k ∷ []) order in
    let rest = served_read bidders (seen ++ k ∷ []) order names (λ i l. below (suc i) (omega (arith, l))) (subst AreApart (sym regroup) apart) in
    rw (found, new) (rest ∙ ap Ok regroup)
  where
    none : (k : ℕ) → k - k ≡ 0
    none k = omega arith

same_test : (n : ℕ) → (n == n) ≡ true
same_test n = grind (arith, nat_tests)

order_read : (bidders : Named) (order : List ℕ) → AreNames (map (λ bidder. bidder.0) bidders) → IsTieOrder (length bidders) order → order_row_of bidders (order_row (names_at bidders order)) ≡ Ok order
unfolding order_row_of
order_read bidders order names is =
    let size = is.size in
    let fields : length (order_row (names_at bidders order)) ≡ length bidders + 1 = omega (arith, size, length-map order (name_at bidders)) in
    let count : (length (order_row (names_at bidders order)) == length bidders + 1) ≡ true = ap (λ m. m == length bidders + 1) fields ∙ same_test (length bidders + 1) in
    let read = served_read bidders [] order names (λ i l. is.within i (omega (arith, l, size))) (λ i j h l e. (let same = is.once i j (omega (arith, h, l, size)) (omega (arith, l, size)) e in omega (arith, same, h))) in
    rw count read

-- ---- the rows after those of the caps

-- these rows where no cap is left: one that ends the bids and is no cap, and those after it
pub record Tail (a : AuctionText) : Type 0 where
  pub first : List (List ℕ)
  pub rest : List (List (List ℕ))
  pub are : order_rows a ++ end_row ∷ [] ≡ first ∷ rest
  pub stops : ends_bids a.format first ≡ true
  pub no_cap : is_cap_row a.format first ≡ false

pub tail : (a : AuctionText) → Tail a
tail a = elim (cases_Bool (has_order a.format)) [
  | inl t ↦ record { first = order_row (names_at a.bidders a.order); rest = end_row ∷ []; are = rw t refl; stops = rw t refl; no_cap = other_word (has_caps a.format) }
  | inr f ↦ record { first = end_row; rest = []; are = rw f refl; stops = refl; no_cap = other_word (has_caps a.format) }
]
  where
    other_word : (t : Bool) → (t && false) ≡ false
    other_word true = refl
    other_word false = refl

-- the order is read from them, and then the last row
pub record Served (a : AuctionText) (rows : List RowText) (next : ℕ) : Type 0 where
  pub left : List RowText
  pub order : order_from a.format a.bidders rows ≡ Ok (a.order, left)
  pub end : end_from next left ≡ Ok []

-- the only format that states no order
first_format : (format : ℕ) → 1 ≤ format → has_order format ≡ false → format ≡ 1
first_format format some f = grind (arith, nat_tests)

pub served : (a : AuctionText) → IsAuction a → (k next : ℕ) → Served a (numbered k (order_rows a ++ end_row ∷ [])) next
unfolding order_from end_from end_of
served a is k next = elim (cases_Bool (has_order a.format)) [
  | inl t ↦ (
      let read = order_read a.bidders a.order is.names is.order in
      record { left = record { number = k + 1; fields = end_row } ∷ []; order = rw t (rw (t, read) refl); end = refl })
  | inr f ↦ (
      let order = is.first_format (first_format a.format is.format.0 f) in
      record { left = record { number = k; fields = end_row } ∷ []; order = rw f (rw (f, order) refl); end = refl })
]
