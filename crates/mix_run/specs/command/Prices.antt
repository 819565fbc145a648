-- What the command `prices` gives.
use Rattle.std.specs.Prelude.{◌≡◌, ◌⊎◌, ℕ, ℤ, List, [], ◌∷◌, ◌++◌, map, Ok, codes}
use Rattle.std.specs.Fmt.{signed_decimal}
use Rattle.mix_text.specs.Auctions.{AuctionText}
use Rattle.mix_text.specs.Pages.{line_of}
use Rattle.mix_serve.specs.LeastPrices.{AreLeastPrices}
use Rattle.mix_answer.specs.Refusals.{AreConvex}
use Rattle.mix_run.specs.Outputs.{Output}
use Rattle.mix_run.specs.Readings.{auction_alone}
use Rattle.mix_run.specs.Refusals.{TellsRefusal}

-- the row of the prices, one for each good
abbrev pub price_row : List ℤ → List (List ℕ)
price_row prices = codes "price" ∷ map signed_decimal prices

-- this row, and `end`
abbrev pub prices_page : List ℤ → List ℕ
prices_page prices = line_of (price_row prices) ++ line_of (codes "end" ∷ [])

-- the output of `prices` for an auction: its least prices where each list is convex, else a refusal
abbrev pub IsPricing : AuctionText → Output → Type 0
IsPricing a output =
    ((prices : List ℤ) × AreConvex a × AreLeastPrices a prices × (output ≡ record { status = 0; bytes = prices_page prices }))
    ⊎ TellsRefusal a output

-- the output of `prices` for a text of an auction alone
abbrev pub IsPricingOf : List ℕ → Output → Type 0
IsPricingOf text output = (a : AuctionText) × (auction_alone text ≡ Ok a) × IsPricing a output
