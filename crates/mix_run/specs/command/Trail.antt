-- What the command `trail` gives.
use Rattle.std.specs.Prelude.{◌≡◌, ◌⊎◌, ℕ, ℤ, List, [], ◌∷◌, ◌++◌, length, map, pos, Ok, codes}
use Rattle.std.specs.Fmt.{signed_decimal}
use Rattle.mix_num.specs.Vectors.{with_null}
use Rattle.mix_market.specs.Lyapunov.{lyapunov}
use Rattle.mix_descent.specs.Trails.{IsTrail}
use Rattle.mix_descent.specs.declared.long_step.LongStep.{LongStep}
use Rattle.mix_text.specs.Auctions.{AuctionText}
use Rattle.mix_text.specs.Pages.{printed}
use Rattle.mix_answer.specs.Refusals.{AreConvex}
use Rattle.mix_answer.specs.Utilities.{utilities_of}
use Rattle.mix_serve.specs.LeastPrices.{AreLeastPrices}
use Rattle.mix_run.specs.Outputs.{Output}
use Rattle.mix_run.specs.command.Prices.{prices_page}
use Rattle.mix_run.specs.Readings.{auction_alone}
use Rattle.mix_run.specs.Refusals.{TellsRefusal}

-- the row of a long step: the number of its set, its length and its slope
abbrev pub step_row : LongStep → List (List ℕ)
step_row step = codes "step" ∷ signed_decimal (pos step.set) ∷ signed_decimal step.length ∷ signed_decimal step.slope ∷ []

-- the rows of the long steps, the row of the prices, and `end`
abbrev pub trail_page : List LongStep → List ℤ → List ℕ
trail_page steps prices = printed (map step_row steps) ++ prices_page prices

-- the trail of an auction from its reserves, and the prices at its end
abbrev pub IsTrailOf : AuctionText → List LongStep → List ℤ → Type 0
IsTrailOf a steps prices = IsTrail (length a.goods) (lyapunov (utilities_of a) a.supply) (with_null a.reserve) steps (with_null prices)

-- the output of `trail` for an auction: the trail from the reserves to the least prices where each list is convex, else a refusal
abbrev pub IsTrailing : AuctionText → Output → Type 0
IsTrailing a output =
    ((steps : List LongStep) × (prices : List ℤ) × AreConvex a × IsTrailOf a steps prices × AreLeastPrices a prices
    × (output ≡ record { status = 0; bytes = trail_page steps prices }))
    ⊎ TellsRefusal a output

-- the output of `trail` for a text of an auction alone
abbrev pub IsTrailingOf : List ℕ → Output → Type 0
IsTrailingOf text output = (a : AuctionText) × (auction_alone text ≡ Ok a) × IsTrailing a output
