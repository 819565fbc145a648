-- What the command `validate` gives.
use Rattle.std.specs.Prelude.{◌≡◌, ◌⊎◌, ℕ, List, [], ◌∷◌, ◌++◌, length, map, Ok, codes}
use Rattle.std.specs.Fmt.{signed_decimal}
use Rattle.mix_num.specs.Orders.{places}
use Rattle.mix_text.specs.Auctions.{AuctionText}
use Rattle.mix_text.specs.Bidders.{list_at, name_at}
use Rattle.mix_text.specs.Caps.{cap_at}
use Rattle.mix_text.specs.Pages.{line_of, printed}
use Rattle.mix_answer.specs.Refusals.{AreConvex}
use Rattle.mix_answer.specs.Utilities.{total_under}
use Rattle.mix_run.specs.Outputs.{Output}
use Rattle.mix_run.specs.Readings.{auction_alone}
use Rattle.mix_run.specs.Refusals.{TellsRefusal}

-- the row of the bidder at a place, which is convex: its name, and how many units it bids for
abbrev pub valid_row : AuctionText → ℕ → List (List ℕ)
valid_row a k = codes "valid" ∷ name_at a.bidders k ∷ signed_decimal (total_under (cap_at a.caps k) (list_at a.bidders k).bids) ∷ []

-- the rows of the bidders in order, and `end`
abbrev pub valid_page : AuctionText → List ℕ
valid_page a = printed (map (valid_row a) (places (length a.bidders))) ++ line_of (codes "end" ∷ [])

-- the output of `validate` for an auction: the totals where each bidder is convex, else a refusal
abbrev pub IsValidity : AuctionText → Output → Type 0
IsValidity a output = (AreConvex a × (output ≡ record { status = 0; bytes = valid_page a })) ⊎ TellsRefusal a output

-- the output of `validate` for a text of an auction alone
abbrev pub IsValidityOf : List ℕ → Output → Type 0
IsValidityOf text output = (a : AuctionText) × (auction_alone text ≡ Ok a) × IsValidity a output
