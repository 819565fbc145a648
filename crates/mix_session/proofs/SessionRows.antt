-- Reading one row more of a session: what it makes of the reading from there on.
use Rattle.std.proofs.Common.{◌≡◌, ◌<◌, ◌≤◌, ◌||◌, ℕ, List, [], ◌∷◌, ◌++◌, length, drop, refl, sym, Bool, true, false, Some, None, Ok, Err, arith}
use Rattle.std.specs.Prelude.{codes}
use Rattle.std.proofs.lemmas.List.{drop_all}
use Rattle.mix_text.specs.Auctions.{AuctionText}
use Rattle.mix_text.specs.Changes.{limit_of_added, with_added}
use Rattle.mix_text.specs.Reading.{NamedBid, begins, bid_of}
use Rattle.mix_text.specs.Rows.{RowText}
use Rattle.mix_text.specs.declared.faults.Code.{Code}
use Rattle.mix_text.specs.declared.faults.Code.TheVariants as code
use Rattle.mix_text.specs.declared.faults.What.{What}
use Rattle.mix_text.specs.declared.faults.TextError.{TextError}
use Rattle.mix_text.specs.declared.faults.TextError.TheVariants as error
use Rattle.mix_session.specs.Additions.{is_capped_negative}
use Rattle.mix_session.specs.Readings.{add_of, added_in, clear_in, close_in, dropped_in, goes_on, session_from}

-- ---- a bid that is added

-- a row that begins with a word has a field
pub has_field : (fields : List (List ℕ)) → begins fields (codes "add") ≡ true → 0 < length fields
has_field [] e = cc e
has_field (field ∷ rest) e = omega arith

pub added_wrong : (a : AuctionText) (row : RowText) (c : Code) → bid_of (length a.goods) row.fields ≡ Err c → added_in a row ≡ Err (error.Fault (record { at = row.number; code = c }))
unfolding added_in add_of
added_wrong a row c e = rw e refl

pub added_heavy : (a : AuctionText) (row : RowText) (b : NamedBid) → bid_of (length a.goods) row.fields ≡ Ok b → is_capped_negative a b.name b.bid ≡ true
    → added_in a row ≡ Err (error.Fault (record { at = row.number; code = code.Weight }))
unfolding added_in add_of
added_heavy a row b e heavy = rw (e, heavy) refl

pub added_past : (a : AuctionText) (row : RowText) (b : NamedBid) (w : What) → bid_of (length a.goods) row.fields ≡ Ok b → is_capped_negative a b.name b.bid ≡ false → limit_of_added a b.name b.bid ≡ Some w
    → added_in a row ≡ Err (error.Limit (record { at = row.number; what = w }))
unfolding added_in add_of
added_past a row b w e light limit = rw (e, light, limit) refl

pub added_more : (a now : AuctionText) (row : RowText) (b : NamedBid) → bid_of (length a.goods) row.fields ≡ Ok b → is_capped_negative a b.name b.bid ≡ false → limit_of_added a b.name b.bid ≡ None → now ≡ with_added a b.name b.bid
    → added_in a row ≡ Ok now
unfolding added_in add_of
added_more a now row b e light limit same = rw (e, light, limit, same) refl

-- ---- the rows in order

pub row_adds : (a b : AuctionText) (cleared : List AuctionText) (next : ℕ) (row : RowText) (rest : List RowText) → true ≡ begins row.fields (codes "add") → added_in a row ≡ Ok b
    → session_from a cleared next (row ∷ rest) ≡ session_from b cleared next rest
unfolding session_from
row_adds a b cleared next row rest h e = rw (← h, e) refl

pub row_adds_wrong : (a : AuctionText) (cleared : List AuctionText) (next : ℕ) (row : RowText) (rest : List RowText) (e : TextError) → true ≡ begins row.fields (codes "add") → added_in a row ≡ Err e
    → session_from a cleared next (row ∷ rest) ≡ Err e
unfolding session_from
row_adds_wrong a cleared next row rest e h f = rw (← h, f) refl

pub row_drops : (a b : AuctionText) (cleared : List AuctionText) (next : ℕ) (row : RowText) (rest : List RowText) → false ≡ begins row.fields (codes "add") → true ≡ begins row.fields (codes "drop") → dropped_in a row ≡ Ok b
    → session_from a cleared next (row ∷ rest) ≡ session_from b cleared next rest
unfolding session_from
row_drops a b cleared next row rest g h e = rw (← g, ← h, e) refl

pub row_drops_wrong : (a : AuctionText) (cleared : List AuctionText) (next : ℕ) (row : RowText) (rest : List RowText) (e : TextError) → false ≡ begins row.fields (codes "add") → true ≡ begins row.fields (codes "drop") → dropped_in a row ≡ Err e
    → session_from a cleared next (row ∷ rest) ≡ Err e
unfolding session_from
row_drops_wrong a cleared next row rest e g h f = rw (← g, ← h, f) refl

pub row_clears : (a : AuctionText) (cleared : List AuctionText) (next : ℕ) (row : RowText) (rest : List RowText)
    → false ≡ begins row.fields (codes "add") → false ≡ begins row.fields (codes "drop") → true ≡ begins row.fields (codes "clear") → clear_in (length cleared) row ≡ Ok tt
    → session_from a cleared next (row ∷ rest) ≡ session_from a (cleared ++ a ∷ []) next rest
unfolding session_from
row_clears a cleared next row rest f g h e = rw (← f, ← g, ← h, e) refl

pub row_clears_wrong : (a : AuctionText) (cleared : List AuctionText) (next : ℕ) (row : RowText) (rest : List RowText) (e : TextError)
    → false ≡ begins row.fields (codes "add") → false ≡ begins row.fields (codes "drop") → true ≡ begins row.fields (codes "clear") → clear_in (length cleared) row ≡ Err e
    → session_from a cleared next (row ∷ rest) ≡ Err e
unfolding session_from
row_clears_wrong a cleared next row rest e f g h w = rw (← f, ← g, ← h, w) refl

-- a row that goes on and neither adds nor drops asks for an outcome
pub asks : (fields : List (List ℕ)) → goes_on fields ≡ true → false ≡ begins fields (codes "add") → false ≡ begins fields (codes "drop") → true ≡ begins fields (codes "clear")
asks fields on f g = third (begins fields (codes "add")) (begins fields (codes "drop")) (begins fields (codes "clear")) on f g
  where
    third : (x y z : Bool) → (x || (y || z)) ≡ true → false ≡ x → false ≡ y → true ≡ z
    third true y z on f g = cc f
    third false true z on f g = cc g
    third false false z on f g = sym on

-- and one that doesn't go on is none of these
none_of : (x y z : Bool) → false ≡ (x || (y || z)) → (x ≡ false) × (y ≡ false) × (z ≡ false)
none_of true y z e = cc e
none_of false true z e = cc e
none_of false false true e = cc e
none_of false false false e = (refl, refl, refl)

pub row_closes : (a : AuctionText) (cleared : List AuctionText) (next : ℕ) (row : RowText) (rest : List RowText) → false ≡ goes_on row.fields → close_in row rest ≡ Ok tt
    → session_from a cleared next (row ∷ rest) ≡ Ok cleared
unfolding session_from
row_closes a cleared next row rest h e =
    let n = none_of (begins row.fields (codes "add")) (begins row.fields (codes "drop")) (begins row.fields (codes "clear")) h in
    rw (n.0, n.1, n.2, e) refl

pub row_closes_wrong : (a : AuctionText) (cleared : List AuctionText) (next : ℕ) (row : RowText) (rest : List RowText) (e : TextError) → false ≡ goes_on row.fields → close_in row rest ≡ Err e
    → session_from a cleared next (row ∷ rest) ≡ Err e
unfolding session_from
row_closes_wrong a cleared next row rest e h f =
    let n = none_of (begins row.fields (codes "add")) (begins row.fields (codes "drop")) (begins row.fields (codes "clear")) h in
    rw (n.0, n.1, n.2, f) refl

pub no_row : (a : AuctionText) (cleared : List AuctionText) (next : ℕ) (rows : List RowText) (k : ℕ) → length rows ≤ k → session_from a cleared next (drop k rows) ≡ Err (error.Fault (record { at = next; code = code.End }))
unfolding session_from
no_row a cleared next rows k h = rw (drop_all k rows h) refl
