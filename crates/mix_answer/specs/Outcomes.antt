-- The text of an outcome, row by row.
use Rattle.std.specs.Prelude.{ℕ, ℤ, List, [], ◌∷◌, ◌++◌, map, pos, codes, slice_index_or, if◌then◌else◌}
use Rattle.std.specs.Fmt.{signed_decimal}
use Rattle.std.specs.List.{flat_map, zip}
use Rattle.mix_num.specs.declared.pair.Tight.{Tight}
use Rattle.mix_text.specs.Auctions.{AuctionText}
use Rattle.mix_text.specs.Bidders.{Named, name_at}
use Rattle.mix_text.specs.Formats.{has_order}
use Rattle.mix_text.specs.Pages.{printed}
use Rattle.mix_text.specs.SharedRows.{amounts_row, end_row, order_rows}
use Rattle.mix_answer.specs.declared.outcome.Answer.{Answer}
use Rattle.mix_answer.specs.declared.outcome.Outcome.{Outcome}
use Rattle.mix_answer.specs.declared.outcome.Outcome.TheVariants.{Cleared, Refused}
use Rattle.mix_answer.specs.declared.refusal.Refusal.{Refusal}
use Rattle.mix_answer.specs.declared.share.Share.{Share}

-- a choice as it is written: `-` for the null choice, which comes before the goods, and a good by its name
abbrev pub choice_text : List (List ℕ) → ℕ → List ℕ
choice_text goods choice = slice_index_or (codes "-" ∷ goods) choice []

-- the version of an outcome's text: 1 in format 1, and 2 where the tie order is stated
abbrev pub version_of : ℕ → ℕ
version_of format = if has_order format then 2 else 1

-- the first row
abbrev pub head_row : ℕ → List (List ℕ)
head_row format = codes "outcome" ∷ signed_decimal (pos (version_of format)) ∷ []

-- the row of a refusal: the bidder's name, the two choices, the prices, and the facet weight there
abbrev pub refusal_row : AuctionText → Refusal → List (List ℕ)
refusal_row a r =
    codes "refused" ∷ name_at a.bidders r.bidder ∷ choice_text a.goods r.first ∷ choice_text a.goods r.second
    ∷ (map signed_decimal r.prices.items ++ signed_decimal r.weight ∷ [])

-- the row before those of an answer
abbrev pub cleared_row : List (List ℕ)
cleared_row = codes "cleared" ∷ []

-- the row of a share: the bidder's name, its bundle, and what it pays
abbrev pub share_row : List ℕ → Share → List (List ℕ)
share_row name share = codes "share" ∷ name ∷ (map signed_decimal share.bundle.items ++ signed_decimal share.payment ∷ [])

-- a row for each bidder in order
unfoldable pub share_rows : Named → List Share → List (List (List ℕ))
share_rows bidders shares = map (λ p. share_row p.0.0 p.1) (zip bidders shares)

-- a bidder and a good by their names
pub record BidderGood : Type 0 where
  pub bidder : List ℕ
  pub good : List ℕ

-- one bidder with each good in order, and each bidder in order with each good
abbrev pub with_each : List (List ℕ) → List ℕ → List BidderGood
with_each goods bidder = map (λ good. record { bidder = bidder; good = good }) goods

abbrev pub bidders_goods : List (List ℕ) → Named → List BidderGood
bidders_goods goods bidders = flat_map (λ bidder. with_each goods bidder.0) bidders

-- the row of a pair: the names of its bidder and its good, the upper set and the lower one
abbrev pub tight_row : BidderGood → Tight → List (List ℕ)
tight_row names tight = codes "tight" ∷ names.bidder ∷ names.good ∷ signed_decimal (pos tight.upper) ∷ signed_decimal (pos tight.lower) ∷ []

-- a row for each of these
unfoldable pub tight_rows : List BidderGood → List Tight → List (List (List ℕ))
tight_rows names tights = map (λ p. tight_row p.0 p.1) (zip names tights)

-- the rows of an answer
unfoldable pub answer_rows : AuctionText → Answer → List (List (List ℕ))
answer_rows a answer =
    cleared_row ∷ amounts_row (codes "price") answer.prices.items
    ∷ (share_rows a.bidders answer.shares ++ amounts_row (codes "return") answer.returns.items ∷ tight_rows (bidders_goods a.goods a.bidders) answer.tights)

-- the rows of the outcome itself
abbrev pub inner_rows : AuctionText → Outcome → List (List (List ℕ))
inner_rows a (Refused r) = refusal_row a r ∷ []
inner_rows a (Cleared answer) = answer_rows a answer

-- all rows
abbrev pub outcome_rows : AuctionText → Outcome → List (List (List ℕ))
outcome_rows a outcome = head_row a.format ∷ (order_rows a ++ (inner_rows a outcome ++ end_row ∷ []))

-- the text
abbrev pub outcome_text : AuctionText → Outcome → List ℕ
outcome_text a outcome = printed (outcome_rows a outcome)
