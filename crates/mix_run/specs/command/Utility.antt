-- What the command `utility` prints: each bidder's indirect utility at the prices after the auction.
use Rattle.std.specs.Prelude.{ℕ, ℤ, List, [], ◌∷◌, ◌++◌, length, map, Result, Ok, codes}
use Rattle.std.specs.Fmt.{signed_decimal}
use Rattle.mix_num.specs.Orders.{places}
use Rattle.mix_num.specs.Vectors.{with_null}
use Rattle.mix_text.specs.Auctions.{AuctionText}
use Rattle.mix_text.specs.Bidders.{name_at}
use Rattle.mix_text.specs.Pages.{line_of, printed}
use Rattle.mix_text.specs.Reading.{◌>>=◌, prices_after, reading_of}
use Rattle.mix_text.specs.Rows.{rows_of}
use Rattle.mix_text.specs.declared.faults.TextError.{TextError}
use Rattle.mix_answer.specs.Utilities.{entrant_at, entrant_utility}
use Rattle.mix_run.specs.Readings.{or_fault}

-- the row of the bidder at a place: its name, and its indirect utility at the prices
abbrev pub utility_row : AuctionText → List ℤ → ℕ → List (List ℕ)
utility_row a prices k = codes "utility" ∷ name_at a.bidders k ∷ signed_decimal (entrant_utility (entrant_at a k) (with_null prices)) ∷ []

-- the rows of the bidders in order, and `end`
abbrev pub utility_page : AuctionText → List ℤ → List ℕ
utility_page a prices = printed (map (utility_row a prices) (places (length a.bidders))) ++ line_of (codes "end" ∷ [])

-- what is printed for a text: that of its auction and of the one row of prices after it, or what is wrong first
unfoldable pub utility_text : List ℕ → Result (List ℕ) TextError
utility_text text =
    reading_of (rows_of text) >>= λ read.
    or_fault (prices_after (length read.0.goods) read.1) >>= λ prices.
    Ok (utility_page read.0 prices)
