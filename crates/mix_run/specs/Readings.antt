-- What is read of a text that a command wants: how faults of the rows after an auction are told, and an auction by itself.
use Rattle.std.specs.Prelude.{ℕ, List, Result, Ok, Err}
use Rattle.mix_text.specs.Auctions.{AuctionText}
use Rattle.mix_text.specs.Reading.{◌>>=◌, nothing_after, reading_of}
use Rattle.mix_text.specs.Rows.{rows_of}
use Rattle.mix_text.specs.declared.faults.Fault.{Fault}
use Rattle.mix_text.specs.declared.faults.TextError.{TextError}
use Rattle.mix_text.specs.declared.faults.TextError.TheVariants as error

-- what is read, where no row has a fault
abbrev pub or_fault : {X : Type 0} → Result X Fault → Result X TextError
or_fault (Ok x) = Ok x
or_fault (Err fault) = Err (error.Fault fault)

-- the auction of a text that holds nothing else, or what is wrong first
unfoldable pub auction_alone : List ℕ → Result AuctionText TextError
auction_alone text =
    reading_of (rows_of text) >>= λ read.
    or_fault (nothing_after read.1.rows) >>= λ _.
    Ok read.0
