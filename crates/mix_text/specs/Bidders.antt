-- The bidders of an auction by name, in order of first appearance.
use Rattle.std.specs.Prelude.{ℕ, List, [], ◌∷◌, ◌++◌, Option, map, position, slice_index_or, slice_set}
use Rattle.std.specs.Str.{bytes_eq}
use Rattle.mix_bids.specs.Bids.{Book}
use Rattle.mix_bids.specs.declared.bid.Bid.{Bid}

-- bidders: for each the bytes of its name, and its list of bids
abbrev pub Named : Type 0
Named = List (List ℕ × Book)

-- the place of the first bidder of a name
abbrev pub place_of : List ℕ → Named → Option ℕ
place_of name bidders = position (λ b. bytes_eq name b.0) bidders

-- the bidder at a place, and none where the place isn't there
abbrev pub bidder_at : Named → ℕ → List ℕ × Book
bidder_at bidders k = slice_index_or bidders k ([], record { goods = 0; bids = [] })

abbrev pub name_at : Named → ℕ → List ℕ
name_at bidders k = (bidder_at bidders k).0

-- the names of the bidders at these places
abbrev pub names_at : Named → List ℕ → List (List ℕ)
names_at bidders places = map (name_at bidders) places

abbrev pub list_at : Named → ℕ → Book
list_at bidders k = (bidder_at bidders k).1

-- a list of bids with one more at its end
abbrev pub with_bid : Book → Bid → Book
with_bid list bid = record list { bids = list.bids ++ bid ∷ [] }

-- the bidders with one more bid at the end of the list at a place
abbrev pub with_bid_at : Named → ℕ → Bid → Named
with_bid_at bidders k bid = slice_set bidders k (name_at bidders k, with_bid (list_at bidders k) bid)
