-- Reading one row more of a range: what it makes of the reading from there on.
use Rattle.std.proofs.Common.{◌≡◌, ◌≤◌, ℕ, List, ◌∷◌, length, drop, refl, true, false, Ok, Err}
use Rattle.std.specs.Prelude.{codes}
use Rattle.std.proofs.lemmas.List.{drop_all}
use Rattle.mix_text.specs.Auctions.{AuctionText}
use Rattle.mix_text.specs.Reading.{begins}
use Rattle.mix_text.specs.Rows.{RowText}
use Rattle.mix_text.specs.declared.faults.Code.{Code}
use Rattle.mix_own.specs.Readings.{SoFar, own_row_of, range_from, with_ceiling}

-- a bidder's row
pub own_more : (a : AuctionText) (next : ℕ) (so_far more : SoFar) (row : RowText) (rest : List RowText) → true ≡ begins row.fields (codes "own") → own_row_of a so_far row.fields ≡ Ok more
    → range_from a next so_far (row ∷ rest) ≡ range_from a next more rest
unfolding range_from
own_more a next so_far more row rest h e = rw (← h, e) refl

-- one that is wrong
pub own_wrong : (a : AuctionText) (next : ℕ) (so_far : SoFar) (row : RowText) (rest : List RowText) (c : Code) → true ≡ begins row.fields (codes "own") → own_row_of a so_far row.fields ≡ Err c
    → range_from a next so_far (row ∷ rest) ≡ Err (record { at = row.number; code = c })
unfolding range_from
own_wrong a next so_far row rest c h e = rw (← h, e) refl

-- another row
pub own_end : (a : AuctionText) (next : ℕ) (so_far : SoFar) (row : RowText) (rest : List RowText) → false ≡ begins row.fields (codes "own")
    → range_from a next so_far (row ∷ rest) ≡ with_ceiling a next so_far.owned (row ∷ rest)
unfolding range_from
own_end a next so_far row rest h = rw (← h) refl

-- no row is left
pub own_none : (a : AuctionText) (next : ℕ) (so_far : SoFar) (rows : List RowText) (k : ℕ) → length rows ≤ k → range_from a next so_far (drop k rows) ≡ with_ceiling a next so_far.owned (drop k rows)
unfolding range_from
own_none a next so_far rows k h = rw (drop_all k rows h) refl
