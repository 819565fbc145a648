-- What the command `compare` gives.
use Rattle.std.specs.Prelude.{◌≡◌, ℕ, ℤ, List, [], ◌∷◌, ◌++◌, drop, map, Ok, codes}
use Rattle.std.specs.Fmt.{signed_decimal}
use Rattle.mix_bids.specs.Bids.{Book}
use Rattle.mix_canon.specs.Searches.{AreAlike, IsFirstTried, TellsApart}
use Rattle.mix_canon.specs.declared.likeness.Likeness.{Likeness}
use Rattle.mix_canon.specs.declared.likeness.Likeness.TheVariants.{Differ, Equal}
use Rattle.mix_text.specs.Auctions.{AuctionText}
use Rattle.mix_text.specs.Bidders.{Named, list_at}
use Rattle.mix_text.specs.Pages.{line_of, printed}
use Rattle.mix_run.specs.Outputs.{Output}
use Rattle.mix_run.specs.Readings.{auction_alone}

-- what is so of two lists: they have the same indirect utility at all whole prices; or they differ at the first of the prices that are tried
abbrev pub IsLikenessOf : Book → Book → Likeness → Type 0
IsLikenessOf first own Equal = AreAlike first.goods first.bids own.bids
IsLikenessOf first own (Differ prices a b) = TellsApart first own prices.items a b × IsFirstTried first.goods first.bids own.bids prices.items

abbrev pub same_row : List ℕ → List (List ℕ)
same_row name = codes "same" ∷ name ∷ []

-- the prices, the utility of the first list there, and that of the bidder's own
abbrev pub differ_row : List ℕ → List ℤ → ℤ → ℤ → List (List ℕ)
differ_row name prices a b = codes "differ" ∷ name ∷ (map signed_decimal prices ++ signed_decimal a ∷ signed_decimal b ∷ [])

-- the row of a bidder by its name
abbrev pub likeness_row : List ℕ → Likeness → List (List ℕ)
likeness_row name Equal = same_row name
likeness_row name (Differ prices a b) = differ_row name prices.items a b

-- a row says what is so of the first list and a bidder's own
abbrev pub IsRowOf : Book → (List ℕ × Book) → List (List ℕ) → Type 0
IsRowOf first bidder row = (likeness : Likeness) × IsLikenessOf first bidder.1 likeness × (row ≡ likeness_row bidder.0 likeness)

-- a row for each bidder, in order
abbrev pub AreRowsOf : Book → Named → List (List (List ℕ)) → Type 0
AreRowsOf first [] rows = rows ≡ []
AreRowsOf first (bidder ∷ bidders) [] = ⊥
AreRowsOf first (bidder ∷ bidders) (row ∷ rows) = IsRowOf first bidder row × AreRowsOf first bidders rows

-- the output of `compare` for an auction: the rows of the bidders after the first, and `end`
abbrev pub IsComparison : AuctionText → Output → Type 0
IsComparison a output =
    (rows : List (List (List ℕ))) × AreRowsOf (list_at a.bidders 0) (drop 1 a.bidders) rows
    × (output ≡ record { status = 0; bytes = printed rows ++ line_of (codes "end" ∷ []) })

-- the output of `compare` for a text of an auction alone
abbrev pub IsComparisonOf : List ℕ → Output → Type 0
IsComparisonOf text output = (a : AuctionText) × (auction_alone text ≡ Ok a) × IsComparison a output

-- a text of an auction alone
abbrev pub HasAuction : List ℕ → Type 0
HasAuction text = (a : AuctionText) × (auction_alone text ≡ Ok a)
