-- What comes after the auction of a range, read row by row: what the bidders own and the ceiling of each good, or the first row with a fault.
use Rattle.std.specs.Prelude.{◌≡◌, ◌==◌, ◌<◌, ◌+◌, ◌⊎◌, ◌||◌, Bool, true, false, ℕ, ℤ, pos, ◌-ℤ◌, ◌≤ℤ◌, ◌<ℤ◌, List, [], ◌∷◌, ◌++◌, length, drop, get_or, replicate, slice_set, not, int_le, if◌then◌else◌, Result, Ok, Err, codes}
use Rattle.std.specs.Ordering.{int_eq}
use Rattle.mix_num.specs.Sellers.{AreAmounts}
use Rattle.mix_text.specs.Auctions.{AuctionText}
use Rattle.mix_text.specs.Reading.{◌>>=◌, begins, bidder_of, field_at, holds, nothing_after, number_in, numbered_as, numbers_of}
use Rattle.mix_text.specs.Rows.{RestText, RowText}
use Rattle.mix_text.specs.declared.faults.Code.{Code}
use Rattle.mix_text.specs.declared.faults.Code.TheVariants as code
use Rattle.mix_text.specs.declared.faults.Fault.{Fault}
use Rattle.mix_own.specs.Owned.{AreOwned, owned_at, owned_of_good}
use Rattle.mix_own.specs.declared.reading.RangeError.{RangeError}
use Rattle.mix_own.specs.declared.reading.RangeError.TheVariants as error

-- ---- one row by itself: what its fields say, or the code of the first of its tests that fails

-- what each bidder owns so far, and whether it has had its row
pub record SoFar : Type 0 where
  pub owned : List (List ℤ)
  pub told : List Bool

-- nobody owns anything, and nobody has had a row
abbrev pub nothing_told : AuctionText → SoFar
nothing_told a = record { owned = replicate (length a.bidders) (replicate (length a.goods) (pos 0)); told = replicate (length a.bidders) false }

-- how many units of the good at a place a bidder more may own: 1,000,000 less the supply and less what is owned so far
abbrev pub room_of : AuctionText → List (List ℤ) → ℕ → ℤ
room_of a owned i = (pos 1000000 -ℤ get_or a.supply i (pos 0)) -ℤ owned_of_good owned i

-- how many units of a good with a reserve a bidder owns: none, unless the reserve is 0, and no more than there is room for
unfoldable pub own_number_of : ℤ → ℤ → List ℕ → Result ℤ Code
own_number_of reserve room field =
    number_in (pos 0) (pos 1000000) field >>= λ units.
    holds (int_le units (pos 0) || int_eq reserve (pos 0)) code.Other >>= λ _.
    holds (int_le units room) code.Range >>= λ _.
    Ok units

-- the number of each good from left to right, after those of the goods before
abbrev pub own_numbers_after : AuctionText → List (List ℤ) → List ℤ → List (List ℕ) → Result (List ℤ) Code
own_numbers_after a owned before [] = Ok before
own_numbers_after a owned before (field ∷ rest) =
    own_number_of (get_or a.reserve (length before) (pos 0)) (room_of a owned (length before)) field >>= λ units. own_numbers_after a owned (before ++ units ∷ []) rest

-- the row of a bidder that has had none before, whose word is known: its name, and a number for each good
unfoldable pub own_row_of : AuctionText → SoFar → List (List ℕ) → Result SoFar Code
own_row_of a so_far fields =
    holds (length fields == length a.goods + 2) code.Fields >>= λ _.
    bidder_of a.bidders (field_at fields 1) >>= λ k.
    holds (not (get_or so_far.told k false)) code.Repeated >>= λ _.
    own_numbers_after a so_far.owned [] (drop 2 fields) >>= λ units.
    Ok (record { owned = slice_set so_far.owned k units; told = slice_set so_far.told k true })

-- the row of the ceiling: a number from 0 to 1,000,000 for each of n goods
abbrev pub ceiling_of : ℕ → List (List ℕ) → Result (List ℤ) Code
ceiling_of n fields = numbers_of (codes "ceiling") n (pos 0) (pos 1000000) fields

-- the last row: `close` alone
unfoldable pub close_of : List (List ℕ) → Result (Unit {0}) Code
close_of fields = holds (begins fields (codes "close")) code.Place >>= λ _. holds (length fields == 1) code.Fields

-- ---- the rows in order; `next` is the number after the last row's

-- the last row, and no row after it
abbrev pub close_in : ℕ → List RowText → Result (Unit {0}) Fault
close_in next [] = numbered_as next (Err code.End)
close_in next (row ∷ rest) = numbered_as row.number (close_of row.fields) >>= λ _. nothing_after rest

-- the ceiling of n goods, and the last row
abbrev pub ceiling_in : ℕ → ℕ → List RowText → Result (List ℤ) Fault
ceiling_in n next [] = numbered_as next (Err code.End)
ceiling_in n next (row ∷ rest) = numbered_as row.number (ceiling_of n row.fields) >>= λ ceiling. close_in next rest >>= λ _. Ok ceiling

-- what is owned so far, and the ceiling, where no bidder has a row more
abbrev pub with_ceiling : AuctionText → ℕ → List (List ℤ) → List RowText → Result (List (List ℤ) × List ℤ) Fault
with_ceiling a next owned rows = ceiling_in (length a.goods) next rows >>= λ ceiling. Ok (owned, ceiling)

-- what the bidders own, after what they own so far, and the ceiling
unfoldable pub range_from : AuctionText → ℕ → SoFar → List RowText → Result (List (List ℤ) × List ℤ) Fault
range_from a next so_far [] = with_ceiling a next so_far.owned []
range_from a next so_far (row ∷ rest) =
    if begins row.fields (codes "own")
    then (numbered_as row.number (own_row_of a so_far row.fields) >>= λ more. range_from a next more rest)
    else with_ceiling a next so_far.owned (row ∷ rest)

-- what the rows after an auction say that its bidders own, and the ceiling
abbrev pub range_after : AuctionText → RestText → Result (List (List ℤ) × List ℤ) Fault
range_after a rest = range_from a rest.next (nothing_told a) rest.rows

-- a fault as the error that it is
abbrev pub as_error : {X : Type 0} → Result X Fault → Result X RangeError
as_error (Ok x) = Ok x
as_error (Err fault) = Err (error.Fault fault)

-- an error that is the first fault among the rows, or want of memory
abbrev pub IsFromRange : {X : Type 0} → Result X Fault → RangeError → Type 0
IsFromRange read e = (e ≡ error.Memory) ⊎ (as_error read ≡ Err e)

-- ---- for proofs; no public clause rests on it

-- what is owned so far keeps to the limits, and who has had no row owns nothing
pub record IsSoFar (a : AuctionText) (so_far : SoFar) : Type 0 where
  pub owned : AreOwned a so_far.owned
  pub count : length so_far.told ≡ length a.bidders
  pub untold : (k : ℕ) → k < length a.bidders → get_or so_far.told k false ≡ false → (i : ℕ) → get_or (owned_at so_far.owned k) i (pos 0) ≡ pos 0

-- the first m goods of a bidder that owns nothing yet, beside what is owned so far
pub record FitsRoom (a : AuctionText) (owned : List (List ℤ)) (m : ℕ) (units : List ℤ) : Type 0 where
  pub amounts : AreAmounts m units
  pub free : (i : ℕ) → i < m → pos 0 <ℤ get_or units i (pos 0) → get_or a.reserve i (pos 0) ≡ pos 0
  pub most : (i : ℕ) → i < m → get_or units i (pos 0) ≤ℤ room_of a owned i
