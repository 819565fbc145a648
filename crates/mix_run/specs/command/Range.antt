-- What the command `range` reads and gives.
use Rattle.std.specs.Prelude.{◌≡◌, ◌⊎◌, ◌<◌, ℕ, ℤ, pos, ◌<ℤ◌, List, [], ◌∷◌, ◌++◌, length, get_or, map, Option, Some, None, Result, Ok, codes}
use Rattle.std.specs.Fmt.{signed_decimal}
use Rattle.arrayvec.specs.ArrayVec.{ArrayVec}
use Rattle.mix_num.specs.Orders.{places}
use Rattle.mix_num.specs.Sellers.{AreAmounts}
use Rattle.mix_clearing.specs.Ceilings.{AreGreatestClearing}
use Rattle.mix_text.specs.Auctions.{AuctionText, IsAuction}
use Rattle.mix_text.specs.AuctionTexts.{auction_text}
use Rattle.mix_text.specs.Bidders.{name_at}
use Rattle.mix_text.specs.Pages.{line_of, printed}
use Rattle.mix_text.specs.Reading.{◌>>=◌, reading_of}
use Rattle.mix_text.specs.Rows.{rows_of}
use Rattle.mix_text.specs.declared.faults.TextError.{TextError}
use Rattle.mix_answer.specs.Refusals.{AreConvex}
use Rattle.mix_answer.specs.Shapes.{HasAnswerShape}
use Rattle.mix_answer.specs.Truths.{IsTrueAnswer}
use Rattle.mix_answer.specs.Utilities.{IsConvexEntrant, entrant_at, utilities_of}
use Rattle.mix_answer.specs.declared.outcome.Answer.{Answer}
use Rattle.mix_own.specs.Owned.{AreOwned, gross_of}
use Rattle.mix_own.specs.Readings.{range_after}
use Rattle.mix_own.specs.Trades.{trades_of}
use Rattle.mix_own.specs.declared.trade.Trade.{Trade}
use Rattle.mix_run.specs.Outputs.{Output}
use Rattle.mix_run.specs.Readings.{or_fault}
use Rattle.mix_run.specs.Refusals.{TellsRefusal}
use Rattle.mix_run.specs.declared.command.range.Range.{Range}
use Rattle.mix_run.specs.declared.command.range.Ranged.{Ranged}

-- ---- what is read

-- an auction, what its bidders own, and the ceiling of each good
pub record RangeText : Type 0 where
  pub auction : AuctionText
  pub owned : List (List ℤ)
  pub ceiling : List ℤ

-- those of a text, or what is wrong first
unfoldable pub range_text : List ℕ → Result RangeText TextError
range_text text =
    reading_of (rows_of text) >>= λ read.
    or_fault (range_after read.0 read.1) >>= λ told.
    Ok (record { auction = read.0; owned = told.0; ceiling = told.1 })

-- what was read, as contracts see it
abbrev pub as_text : Range → RangeText
as_text range = record { auction = auction_text range.auction; owned = range.owned; ceiling = range.ceiling.items }

-- what is read keeps to the limits of auctions, of what may be owned, and of prices
pub record IsRange (range : RangeText) : Type 0 where
  pub auction : IsAuction range.auction
  pub owned : AreOwned range.auction range.owned
  pub ceiling : AreAmounts (length range.auction.goods) range.ceiling

-- the gross auction: all that is owned is offered beside the supply
abbrev pub gross_auction : RangeText → AuctionText
gross_auction range = gross_of range.auction range.owned

-- ---- what is printed

abbrev pub low_row : List ℤ → List (List ℕ)
low_row prices = codes "low" ∷ map signed_decimal prices

abbrev pub high_row : Option (ArrayVec ℤ) → List (List ℕ)
high_row None = codes "high" ∷ codes "none" ∷ []
high_row (Some prices) = codes "high" ∷ map signed_decimal prices.items

-- the row of a trade: the bidder's name, the net amounts, and the payment
abbrev pub trade_row : List ℕ → Trade → List (List ℕ)
trade_row name trade = codes "trade" ∷ name ∷ (map signed_decimal trade.net.items ++ signed_decimal trade.payment ∷ [])

abbrev pub return_row : List ℤ → List (List ℕ)
return_row returns = codes "return" ∷ map signed_decimal returns

-- the trade at a place, and its row
abbrev pub trade_at : List Trade → ℕ → Trade
trade_at trades k = get_or trades k (record { net = record { items = [] }; payment = pos 0 })

abbrev pub trade_row_at : AuctionText → List Trade → ℕ → List (List ℕ)
trade_row_at a trades k = trade_row (name_at a.bidders k) (trade_at trades k)

-- the low prices, the high ones, a trade for each bidder, the returns, and `end`
abbrev pub ranged_text : AuctionText → Ranged → List ℕ
ranged_text a ranged =
    line_of (low_row ranged.low.items) ++ line_of (high_row ranged.high) ++ printed (map (trade_row_at a ranged.trades) (places (length a.bidders)))
    ++ line_of (return_row ranged.returns.items) ++ line_of (codes "end" ∷ [])

-- ---- when it is true

-- the greatest clearing prices under the ceiling, or none, where some low price is above the ceiling's
abbrev pub IsHigh : AuctionText → List ℤ → List ℤ → Option (ArrayVec ℤ) → Type 0
IsHigh a ceiling low None = (i : ℕ) × (i < length a.goods) × (get_or ceiling i (pos 0) <ℤ get_or low i (pos 0))
IsHigh a ceiling low (Some high) = AreGreatestClearing (utilities_of a) a.supply a.reserve ceiling high.items

-- the least clearing prices of the gross auction, its greatest ones under the ceiling, the trades by which the bidders come to what they get
-- there, and what is returned: those of a true answer
pub record IsRanged (gross : AuctionText) (owned : List (List ℤ)) (ceiling : List ℤ) (ranged : Ranged) : Type 0 where
  pub answer : Answer
  pub truth : IsTrueAnswer gross answer
  pub shape : HasAnswerShape gross answer
  pub low : ranged.low.items ≡ answer.prices.items
  pub high : IsHigh gross ceiling answer.prices.items ranged.high
  pub trades : ranged.trades ≡ trades_of owned answer
  pub returns : ranged.returns.items ≡ answer.returns.items

-- the output of `range` for what is read: these where each bidder is convex, else a refusal
abbrev pub IsRanging : RangeText → Output → Type 0
IsRanging range output =
    ((ranged : Ranged) × IsRanged (gross_auction range) range.owned range.ceiling ranged × (output ≡ record { status = 0; bytes = ranged_text range.auction ranged }))
    ⊎ TellsRefusal range.auction output

-- the output of `range` for a text
abbrev pub IsRangingOf : List ℕ → Output → Type 0
IsRangingOf text output = (range : RangeText) × (range_text text ≡ Ok range) × IsRange range × IsRanging range output

-- ---- what a text has

-- a range whose bidders are all convex, or with one that isn't
abbrev pub HasConvexOwners : List ℕ → Type 0
HasConvexOwners text = (range : RangeText) × (range_text text ≡ Ok range) × AreConvex range.auction

abbrev pub HasNonconvexOwner : List ℕ → Type 0
HasNonconvexOwner text = (range : RangeText) × (range_text text ≡ Ok range) × (k : ℕ) × (k < length range.auction.bidders) × ¬ IsConvexEntrant (entrant_at range.auction k)
