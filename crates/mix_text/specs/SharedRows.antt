-- Rows that the text of an auction and that of an outcome share.
use Rattle.std.specs.Prelude.{ℕ, ℤ, List, [], ◌∷◌, map, codes, if◌then◌else◌}
use Rattle.std.specs.Fmt.{signed_decimal}
use Rattle.mix_text.specs.Auctions.{AuctionText}
use Rattle.mix_text.specs.Bidders.{names_at}
use Rattle.mix_text.specs.Formats.{has_order}

-- a row of a word and numbers
abbrev pub amounts_row : List ℕ → List ℤ → List (List ℕ)
amounts_row word amounts = word ∷ map signed_decimal amounts

-- the row of the tie order: the names of the bidders in it
abbrev pub order_row : List (List ℕ) → List (List ℕ)
order_row names = codes "order" ∷ names

-- this row, where the format states the order
abbrev pub order_rows : AuctionText → List (List (List ℕ))
order_rows a = if has_order a.format then order_row (names_at a.bidders a.order) ∷ [] else []

-- the last row
abbrev pub end_row : List (List ℕ)
end_row = codes "end" ∷ []
