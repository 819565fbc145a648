-- The rows of a session after its auction, read row by row: the auction at each outcome that is asked for, or what is wrong first.
use Rattle.std.specs.Prelude.{◌==◌, ◌||◌, Bool, ℕ, List, [], ◌∷◌, ◌++◌, length, not, nat_le, if◌then◌else◌, Option, Some, None, Result, Ok, Err, codes}
use Rattle.mix_text.specs.Auctions.{AuctionText}
use Rattle.mix_text.specs.Changes.{limit_of_added, with_added, without_at}
use Rattle.mix_text.specs.Reading.{◌>>=◌, NamedBid, begins, bid_of, bidder_of, ends_early, field_at, holds, placed, unless_past}
use Rattle.mix_text.specs.Rows.{RestText, RowText}
use Rattle.mix_text.specs.declared.faults.Code.{Code}
use Rattle.mix_text.specs.declared.faults.Code.TheVariants as code
use Rattle.mix_text.specs.declared.faults.What.{What}
use Rattle.mix_text.specs.declared.faults.What.TheVariants as what
use Rattle.mix_text.specs.declared.faults.TextError.{TextError}
use Rattle.mix_session.specs.Additions.{is_capped_negative}

-- ---- one row by itself: what its fields say, or the code of the first of its tests that fails

-- a bid to add, whose word is known: a bid over the auction's goods, not of negative weight where its bidder has a cap
unfoldable pub add_of : AuctionText → List (List ℕ) → Result NamedBid Code
add_of a fields = bid_of (length a.goods) fields >>= λ b. holds (not (is_capped_negative a b.name b.bid)) code.Weight >>= λ _. Ok b

-- a bidder to drop, whose word is known: its name; what is left is the auction without it
unfoldable pub drop_of : AuctionText → List (List ℕ) → Result AuctionText Code
drop_of a fields = holds (length fields == 2) code.Fields >>= λ _. bidder_of a.bidders (field_at fields 1) >>= λ k. Ok (without_at a k)

-- a row that asks for an outcome, whose word is known: nothing else
abbrev pub clear_of : List (List ℕ) → Result (Unit {0}) Code
clear_of fields = holds (length fields == 1) code.Fields

-- the last row: `close` alone
unfoldable pub close_of : List (List ℕ) → Result (Unit {0}) Code
close_of fields = holds (begins fields (codes "close")) code.Place >>= λ _. holds (length fields == 1) code.Fields

-- ---- the rows in order

-- the auction after a bid is added: a fault of the row comes before the first limit that the bid passes
unfoldable pub added_in : AuctionText → RowText → Result AuctionText TextError
added_in a row =
    placed row.number (add_of a row.fields) >>= λ b.
    unless_past row.number (limit_of_added a b.name b.bid) >>= λ _.
    Ok (with_added a b.name b.bid)

-- the auction after a bidder leaves
abbrev pub dropped_in : AuctionText → RowText → Result AuctionText TextError
dropped_in a row = placed row.number (drop_of a row.fields)

-- the limit of outcomes: 64
abbrev pub past_clears : ℕ → Option What
past_clears before = if nat_le 64 before then Some what.Clears else None

-- a row that asks for an outcome, after so many that did before
unfoldable pub clear_in : ℕ → RowText → Result (Unit {0}) TextError
clear_in before row = placed row.number (clear_of row.fields) >>= λ _. unless_past row.number (past_clears before)

-- no row is left, or the first that is left is a fault
abbrev pub none_after : List RowText → Result (Unit {0}) TextError
none_after [] = Ok tt
none_after (row ∷ rest) = placed row.number (Err code.After)

-- the last row, and no row after it
unfoldable pub close_in : RowText → List RowText → Result (Unit {0}) TextError
close_in row rest = placed row.number (close_of row.fields) >>= λ _. none_after rest

-- the auctions of all outcomes that are asked for: those so far, and those that these rows ask for from an auction on; `next` is the number
-- after the last row's
unfoldable pub session_from : AuctionText → List AuctionText → ℕ → List RowText → Result (List AuctionText) TextError
session_from a cleared next [] = ends_early next
session_from a cleared next (row ∷ rest) =
    if begins row.fields (codes "add") then (added_in a row >>= λ b. session_from b cleared next rest)
    else if begins row.fields (codes "drop") then (dropped_in a row >>= λ b. session_from b cleared next rest)
    else if begins row.fields (codes "clear") then (clear_in (length cleared) row >>= λ _. session_from a (cleared ++ a ∷ []) next rest)
    else (close_in row rest >>= λ _. Ok cleared)

-- the same of the rows that are left after an auction
abbrev pub session_of : AuctionText → RestText → Result (List AuctionText) TextError
session_of a rest = session_from a [] rest.next rest.rows

-- ---- for proofs; no public clause rests on it

-- whether a row adds, drops or asks for an outcome, so that others may come after it
abbrev pub goes_on : List (List ℕ) → Bool
goes_on fields = begins fields (codes "add") || (begins fields (codes "drop") || begins fields (codes "clear"))
