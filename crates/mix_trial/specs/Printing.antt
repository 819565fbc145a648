-- The text of an auction, row by row, the bids of each bidder together.
use Rattle.std.specs.Prelude.{ℕ, List, [], ◌∷◌, ◌++◌, ℤ, pos, Option, Some, None, map, codes}
use Rattle.std.specs.Fmt.{signed_decimal}
use Rattle.mix_bids.specs.declared.bid.Bid.{Bid}
use Rattle.mix_text.specs.Auctions.{AuctionText}
use Rattle.mix_text.specs.Bidders.{Named}
use Rattle.mix_text.specs.SharedRows.{amounts_row, end_row, order_rows}

-- the first row: `mix`, and the format
abbrev pub head_row : ℕ → List (List ℕ)
head_row format = codes "mix" ∷ signed_decimal (pos format) ∷ []

-- the row of the goods
abbrev pub goods_row : List (List ℕ) → List (List ℕ)
goods_row names = codes "goods" ∷ names

-- a value as it is written: `-` where the good is left out
abbrev pub value_text : Option ℤ → List ℕ
value_text None = codes "-"
value_text (Some value) = signed_decimal value

-- the row of a bid: the bidder's name, the weight, and what is bid for each good
abbrev pub bid_row : List ℕ → Bid → List (List ℕ)
bid_row name bid = codes "bid" ∷ name ∷ signed_decimal bid.weight ∷ map value_text bid.values.items

-- the rows of the bidders, the bids of each together
abbrev pub bidder_rows : Named → List (List (List ℕ))
bidder_rows [] = []
bidder_rows (bidder ∷ rest) = map (bid_row bidder.0) bidder.1.bids ++ bidder_rows rest

-- the row of a cap: the bidder's name, and how many units it takes at most
abbrev pub cap_row : List ℕ → ℤ → List (List ℕ)
cap_row name cap = codes "cap" ∷ name ∷ signed_decimal cap ∷ []

-- this row, where the bidder has a cap
abbrev pub own_cap_rows : List ℕ → Option ℤ → List (List (List ℕ))
own_cap_rows name None = []
own_cap_rows name (Some cap) = cap_row name cap ∷ []

-- the rows of the bidders' caps in the bidders' order, those without a cap left out
abbrev pub cap_rows : Named → List (Option ℤ) → List (List (List ℕ))
cap_rows [] caps = []
cap_rows (bidder ∷ rest) [] = []
cap_rows (bidder ∷ rest) (cap ∷ caps) = own_cap_rows bidder.0 cap ++ cap_rows rest caps

-- all rows
abbrev pub auction_rows : AuctionText → List (List (List ℕ))
auction_rows a =
    head_row a.format ∷ goods_row a.goods ∷ amounts_row (codes "supply") a.supply ∷ amounts_row (codes "reserve") a.reserve
    ∷ (bidder_rows a.bidders ++ (cap_rows a.bidders a.caps ++ (order_rows a ++ end_row ∷ [])))
