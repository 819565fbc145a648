-- The text of an auction, read row by row: the auction and the rows after it, or the first row with a fault or past a limit.
use Rattle.std.specs.Prelude.{◌≡◌, ◌==◌, ◌≤◌, ◌+◌, ◌⊎◌, ◌&&◌, ◌||◌, Bool, true, false, ℕ, suc, ℤ, pos, neg_ℤ, List, [], ◌∷◌, ◌++◌, length, drop, map, filter, count_by, not, slice_index_or, nat_lt, nat_le, int_lt, if◌then◌else◌, Option, Some, None, is_none, Result, Ok, Err, codes}
use Rattle.std.specs.Ordering.{int_eq}
use Rattle.std.specs.Str.{bytes_eq}
use Rattle.mix_bids.specs.Bids.{Book}
use Rattle.mix_bids.specs.Cells.{cells}
use Rattle.mix_bids.specs.Offers.{offers_some}
use Rattle.mix_bids.specs.declared.bid.Bid.{Bid}
use Rattle.mix_text.specs.Rows.{RestText, RowText}
use Rattle.mix_text.specs.Spelling.{spelled_name, spelled_number, between}
use Rattle.mix_text.specs.Bidders.{Named, list_at, place_of, with_bid}
use Rattle.mix_text.specs.Caps.{cap_at, no_caps, with_cap}
use Rattle.mix_text.specs.Formats.{has_caps, has_order, is_past, limits_of}
use Rattle.mix_text.specs.Names.{different, is_among}
use Rattle.mix_num.specs.Orders.{places}
use Rattle.mix_text.specs.Orders.{is_served}
use Rattle.mix_text.specs.Auctions.{AuctionText}
use Rattle.mix_text.specs.declared.faults.Code.{Code}
use Rattle.mix_text.specs.declared.faults.Code.TheVariants as code
use Rattle.mix_text.specs.declared.faults.Fault.{Fault}
use Rattle.mix_text.specs.declared.faults.What.{What}
use Rattle.mix_text.specs.declared.faults.What.TheVariants as what
use Rattle.mix_text.specs.declared.faults.TextError.{TextError}
use Rattle.mix_text.specs.declared.faults.TextError.TheVariants as error
use Rattle.mix_text.specs.declared.formats.Limits.{Limits}

-- what is read next, unless something was wrong before
infixl 10 ◌>>=◌
abbrev pub ◌>>=◌ : {A B E : Type 0} → Result A E → (A → Result B E) → Result B E
Ok x >>= f = f x
Err e >>= f = Err e

-- ---- one row by itself: what its fields say, or the code of the first of its tests that fails

-- the field at a place
abbrev pub field_at : List (List ℕ) → ℕ → List ℕ
field_at fields k = slice_index_or fields k []

-- whether the first field is this word
abbrev pub begins : List (List ℕ) → List ℕ → Bool
begins fields word = bytes_eq (field_at fields 0) word

-- nothing to read, where a test holds; else a code
abbrev pub holds : Bool → Code → Result (Unit {0}) Code
holds true c = Ok tt
holds false c = Err c

-- fields read from left to right, up to the first that can't be read
abbrev pub each_of : {X : Type 0} → (List ℕ → Result X Code) → List (List ℕ) → Result (List X) Code
each_of read [] = Ok []
each_of read (field ∷ rest) = read field >>= λ x. each_of read rest >>= λ xs. Ok (x ∷ xs)

-- a number from low to high
abbrev pub number_in : ℤ → ℤ → List ℕ → Result ℤ Code
number_in low high field = between low high (spelled_number field)

-- the format that a field names
abbrev pub format_of : List ℕ → Result ℕ Code
format_of field = if bytes_eq field (codes "1") then Ok 1 else if bytes_eq field (codes "2") then Ok 2 else if bytes_eq field (codes "3") then Ok 3 else Err code.Header

-- the first row: `mix`, the format, and nothing else
unfoldable pub header_of : List (List ℕ) → Result ℕ Code
header_of fields = holds (begins fields (codes "mix") && (length fields == 2)) code.Header >>= λ _. format_of (field_at fields 1)

-- names, each unlike those seen before it
abbrev pub names_after : List (List ℕ) → List (List ℕ) → Result (List (List ℕ)) Code
names_after seen [] = Ok seen
names_after seen (field ∷ rest) = spelled_name field >>= λ name. holds (not (is_among name seen)) code.Repeated >>= λ _. names_after (seen ++ (name ∷ [])) rest

-- the row of the goods: `goods`, and at least one name, all different
abbrev pub goods_form_of : List (List ℕ) → Result (Unit {0}) Code
goods_form_of fields = holds (begins fields (codes "goods")) code.Place >>= λ _. holds (nat_le 2 (length fields)) code.Fields

unfoldable pub goods_row_of : List (List ℕ) → Result (List (List ℕ)) Code
goods_row_of fields = goods_form_of fields >>= λ _. names_after [] (drop 1 fields)

-- a row of a word and a number from low to high for each of n goods
unfoldable pub numbers_of : List ℕ → ℕ → ℤ → ℤ → List (List ℕ) → Result (List ℤ) Code
numbers_of word n low high fields =
    holds (begins fields word) code.Place >>= λ _. holds (length fields == n + 1) code.Fields >>= λ _. each_of (number_in low high) (drop 1 fields)

-- a weight: from -10,000 to 10,000, and not 0
unfoldable pub weight_of : List ℕ → Result ℤ Code
weight_of field = number_in (neg_ℤ (pos 10000)) (pos 10000) field >>= λ weight. holds (not (int_eq weight (pos 0))) code.Weight >>= λ _. Ok weight

-- a value: `-` where the good is left out, or a number from 0 to 1,000,000
unfoldable pub value_of : List ℕ → Result (Option ℤ) Code
value_of field = if bytes_eq field (codes "-") then Ok None else (number_in (pos 0) (pos 1000000) field >>= λ value. Ok (Some value))

-- a bid, and the name that it stands under
pub record NamedBid : Type 0 where
  pub name : List ℕ
  pub bid : Bid

-- a bid over n goods: a name, a weight, and a value for each good, not all of them `-`
unfoldable pub bid_of : ℕ → List (List ℕ) → Result NamedBid Code
bid_of n fields =
    holds (length fields == n + 3) code.Fields >>= λ _.
    spelled_name (field_at fields 1) >>= λ name.
    weight_of (field_at fields 2) >>= λ weight.
    each_of value_of (drop 3 fields) >>= λ values.
    holds (offers_some values) code.Nothing >>= λ _.
    Ok (record { name = name; bid = record { weight = weight; values = record { items = values } } })

-- a row that may stand where a bid may, and doesn't end the bids: `bid`, and a bid
unfoldable pub bid_row_of : ℕ → List (List ℕ) → Result NamedBid Code
bid_row_of n fields = holds (begins fields (codes "bid")) code.Place >>= λ _. bid_of n fields

-- whether a row of a format is a stated order, whether it is a cap, and whether it ends the bids: it is one of them, or the last row of the auction
abbrev pub is_order_row : ℕ → List (List ℕ) → Bool
is_order_row format fields = has_order format && begins fields (codes "order")

abbrev pub is_cap_row : ℕ → List (List ℕ) → Bool
is_cap_row format fields = has_caps format && begins fields (codes "cap")

abbrev pub ends_bids : ℕ → List (List ℕ) → Bool
ends_bids format fields = begins fields (codes "end") || (is_order_row format fields || is_cap_row format fields)

-- the place that is found, where one is
abbrev pub found : Option ℕ → Result ℕ Code
found None = Err code.Other
found (Some k) = Ok k

-- the place of the bidder whom a field names
abbrev pub bidder_of : Named → List ℕ → Result ℕ Code
bidder_of bidders field = spelled_name field >>= λ name. found (place_of name bidders)

-- the places of the bidders whom fields name, after those seen before, none of them twice; as all who were seen are bidders, it makes no
-- difference which of the two is tested first: that a name is a bidder's, or that it isn't one of those seen
abbrev pub served_after : Named → List ℕ → List (List ℕ) → Result (List ℕ) Code
served_after bidders seen [] = Ok seen
served_after bidders seen (field ∷ rest) =
    bidder_of bidders field >>= λ k. holds (not (is_served k seen)) code.Repeated >>= λ _. served_after bidders (seen ++ (k ∷ [])) rest

-- a stated order, whose word is known: the name of every bidder once
unfoldable pub order_row_of : Named → List (List ℕ) → Result (List ℕ) Code
order_row_of bidders fields = holds (length fields == length bidders + 1) code.Fields >>= λ _. served_after bidders [] (drop 1 fields)

-- whether a bid has negative weight, and whether none of these has
abbrev pub is_negative : Bid → Bool
is_negative bid = int_lt bid.weight (pos 0)

abbrev pub none_negative : List Bid → Bool
none_negative bids = count_by is_negative bids == 0

-- a cap, whose word is known: a bidder that has none yet, and a number of units; the bidder must not have a bid of negative weight
unfoldable pub cap_row_of : Named → List (Option ℤ) → List (List ℕ) → Result (List (Option ℤ)) Code
cap_row_of bidders caps fields =
    holds (length fields == 3) code.Fields >>= λ _.
    bidder_of bidders (field_at fields 1) >>= λ k.
    holds (is_none (cap_at caps k)) code.Repeated >>= λ _.
    number_in (pos 0) (pos 1000000) (field_at fields 2) >>= λ cap.
    holds (none_negative (list_at bidders k).bids) code.Weight >>= λ _.
    Ok (with_cap caps k cap)

-- the last row of an auction: `end` alone
unfoldable pub end_of : List (List ℕ) → Result (Unit {0}) Code
end_of fields = holds (begins fields (codes "end")) code.Place >>= λ _. holds (length fields == 1) code.Fields

-- ---- limits

-- the names of these bids, and the bids of one name, in their order
abbrev pub names_of : List NamedBid → List (List ℕ)
names_of bids = map (λ b. b.name) bids

abbrev pub bids_under : List ℕ → List NamedBid → List Bid
bids_under name bids = map (λ b. b.bid) (filter (λ b. bytes_eq name b.name) bids)

-- the first limit that one more bid passes after those of its bidder's list
unfoldable pub list_limit_of : Limits → Book → Bid → Option What
list_limit_of limits list bid =
    if nat_le limits.bids (length list.bids) then Some what.Bids
    else if is_negative bid && is_past limits.negatives (suc (count_by is_negative list.bids)) then Some what.Negatives
    else if is_past limits.cells (cells (with_bid list bid)) then Some what.Cells
    else None

-- the list over n goods of the bids of one name
abbrev pub list_under : ℕ → List ℕ → List NamedBid → Book
list_under n name bids = record { goods = n; bids = bids_under name bids }

-- the first limit that a bid over n goods passes after those before it
unfoldable pub limit_of : Limits → ℕ → List NamedBid → NamedBid → Option What
limit_of limits n before b =
    if not (is_among b.name (names_of before)) && nat_le limits.bidders (length (different (names_of before))) then Some what.Bidders
    else list_limit_of limits (list_under n b.name before) b.bid

-- ---- the rows in order

-- a code becomes the fault of the row with this number
abbrev pub numbered_as : {X : Type 0} → ℕ → Result X Code → Result X Fault
numbered_as number (Ok x) = Ok x
numbered_as number (Err c) = Err (record { at = number; code = c })

abbrev pub placed : {X : Type 0} → ℕ → Result X Code → Result X TextError
placed number (Ok x) = Ok x
placed number (Err c) = Err (error.Fault (record { at = number; code = c }))

-- the fault of a text whose rows end too early
abbrev pub ends_early : {X : Type 0} → ℕ → Result X TextError
ends_early next = placed next (Err code.End)

-- nothing, where no limit is passed
abbrev pub unless_past : ℕ → Option What → Result (Unit {0}) TextError
unless_past number None = Ok tt
unless_past number (Some w) = Err (error.Limit (record { at = number; what = w }))

-- the row at a place, or that the rows end too early
abbrev pub row_at : List RowText → ℕ → Result RowText TextError
row_at rows k = if nat_lt k (length rows) then Ok (slice_index_or rows k (record { number = 0; fields = [] })) else ends_early (length rows + 1)

-- what the row at a place says
abbrev pub read_at : {X : Type 0} → List RowText → ℕ → (List (List ℕ) → Result X Code) → Result X TextError
read_at rows k read = row_at rows k >>= λ row. placed row.number (read row.fields)

-- the bids over n goods up to the row that ends them, given those before them, and the rows from that row on
unfoldable pub bids_from : ℕ → Limits → ℕ → List NamedBid → List RowText → Result (List NamedBid × List RowText) TextError
bids_from format limits n before [] = Ok (before, [])
bids_from format limits n before (row ∷ rest) =
    if ends_bids format row.fields
    then Ok (before, row ∷ rest)
    else (
    placed row.number (bid_row_of n row.fields) >>= λ b.
    unless_past row.number (limit_of limits n before b) >>= λ _.
    bids_from format limits n (before ++ (b ∷ [])) rest)

-- the caps that the first of these rows tell, after those told before, and the rows after them
unfoldable pub caps_from : ℕ → Named → List (Option ℤ) → List RowText → Result (List (Option ℤ) × List RowText) TextError
caps_from format bidders caps [] = Ok (caps, [])
caps_from format bidders caps (row ∷ rest) =
    if is_cap_row format row.fields
    then (placed row.number (cap_row_of bidders caps row.fields) >>= λ more. caps_from format bidders more rest)
    else Ok (caps, row ∷ rest)

-- the tie order that the first of these rows states, or else that of first appearance, and the rows after it
unfoldable pub order_from : ℕ → Named → List RowText → Result (List ℕ × List RowText) TextError
order_from format bidders [] = Ok (places (length bidders), [])
order_from format bidders (row ∷ rest) =
    if is_order_row format row.fields
    then (placed row.number (order_row_of bidders row.fields) >>= λ order. Ok (order, rest))
    else Ok (places (length bidders), row ∷ rest)

-- the rows after the row `end`; `next` is the number after the last row's
unfoldable pub end_from : ℕ → List RowText → Result (List RowText) TextError
end_from next [] = ends_early next
end_from next (row ∷ rest) = placed row.number (end_of row.fields) >>= λ _. Ok rest

-- the bidders of these bids over n goods: their different names in order of first appearance, each with its bids in their order
abbrev pub bidders_of : ℕ → List NamedBid → List (List ℕ × Book)
bidders_of n bids = map (λ name. (name, list_under n name bids)) (different (names_of bids))

-- the limit of goods
abbrev pub past_goods : Limits → List (List ℕ) → Option What
past_goods limits goods = if nat_lt limits.goods (length goods) then Some what.Goods else None

-- the goods of their row, within the limit
unfoldable pub goods_at : Limits → RowText → Result (List (List ℕ)) TextError
goods_at limits row = placed row.number (goods_row_of row.fields) >>= λ goods. unless_past row.number (past_goods limits goods) >>= λ _. Ok goods

-- the auction of a text's rows and the rows after it, or what is wrong first
unfoldable pub reading_of : List RowText → Result (AuctionText × RestText) TextError
reading_of rows =
    read_at rows 0 header_of >>= λ format.
    row_at rows 1 >>= goods_at (limits_of format) >>= λ goods.
    read_at rows 2 (numbers_of (codes "supply") (length goods) (pos 0) (pos 1000000)) >>= λ supply.
    read_at rows 3 (numbers_of (codes "reserve") (length goods) (pos 0) (pos 1000000)) >>= λ reserve.
    bids_from format (limits_of format) (length goods) [] (drop 4 rows) >>= λ read.
    caps_from format (bidders_of (length goods) read.0) (no_caps (length (bidders_of (length goods) read.0))) read.1 >>= λ capped.
    order_from format (bidders_of (length goods) read.0) capped.1 >>= λ served.
    end_from (length rows + 1) served.1 >>= λ rest.
    Ok (
      record { format = format; goods = goods; supply = supply; reserve = reserve; bidders = bidders_of (length goods) read.0; caps = capped.0; order = served.0 },
      record { rows = rest; next = length rows + 1 },
    )

-- no row is left, or the first that is left is a fault
abbrev pub nothing_after : List RowText → Result (Unit {0}) Fault
nothing_after [] = Ok tt
nothing_after (row ∷ rest) = numbered_as row.number (Err code.After)

-- the row of prices: `price`, and a number from -2,000,000 to 2,000,000 for each of n goods
abbrev pub prices_of : ℕ → List (List ℕ) → Result (List ℤ) Code
prices_of n fields = numbers_of (codes "price") n (neg_ℤ (pos 2000000)) (pos 2000000) fields

-- the one row of prices that stands after an auction over n goods, or what is wrong first; `next` is the number after the last row's
abbrev pub price_in : ℕ → ℕ → List RowText → Result (List ℤ) Fault
price_in n next [] = numbered_as next (Err code.End)
price_in n next (row ∷ rest) = numbered_as row.number (prices_of n row.fields) >>= λ prices. nothing_after rest >>= λ _. Ok prices

abbrev pub prices_after : ℕ → RestText → Result (List ℤ) Fault
prices_after n rest = price_in n rest.next rest.rows

-- an error that is what the text has wrong first, or want of memory
abbrev pub IsFromText : {X : Type 0} → Result X TextError → TextError → Type 0
IsFromText read e = (e ≡ error.Memory) ⊎ (read ≡ Err e)

-- these bidders are those of the bids from the fifth row on, over n goods and within the limits, which end before the row at a place
pub record ReadsBids (format : ℕ) (limits : Limits) (n : ℕ) (rows : List RowText) (bidders : List (List ℕ × Book)) (place : ℕ) : Type 0 where
  pub bids : List NamedBid
  pub read : bids_from format limits n [] (drop 4 rows) ≡ Ok (bids, drop place rows)
  pub gathered : bidders ≡ bidders_of n bids
  pub within : place ≤ length rows

-- these caps are those from the row at a place on, and the rows go on at another place
pub record ReadsCaps (format : ℕ) (bidders : List (List ℕ × Book)) (rows : List RowText) (place : ℕ) (caps : List (Option ℤ)) (next : ℕ) : Type 0 where
  pub read : caps_from format bidders (no_caps (length bidders)) (drop place rows) ≡ Ok (caps, drop next rows)
  pub within : next ≤ length rows

-- this order is the one from the row at a place on, and the rows go on at another place
pub record ReadsOrder (format : ℕ) (bidders : List (List ℕ × Book)) (rows : List RowText) (place : ℕ) (order : List ℕ) (next : ℕ) : Type 0 where
  pub read : order_from format bidders (drop place rows) ≡ Ok (order, drop next rows)
  pub within : next ≤ length rows
