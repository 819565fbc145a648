-- What the words `trial` and a number give.
use Rattle.std.specs.Prelude.{◌≡◌, ℕ, ℤ, pos, ◌-ℤ◌, List, [], ◌∷◌, ◌++◌, get_or, length, map, codes, decimal}
use Rattle.std.specs.Fmt.{signed_decimal}
use Rattle.std.specs.List.{range_with_len}
use Rattle.mix_num.specs.Sums.{total}
use Rattle.mix_text.specs.Auctions.{AuctionText}
use Rattle.mix_text.specs.Pages.{printed}
use Rattle.mix_answer.specs.Truths.{HaveFirstTights, IsTrueAnswer}
use Rattle.mix_answer.specs.declared.outcome.Answer.{Answer}
use Rattle.mix_trial.specs.Trials.{trial_auction, trial_words}
use Rattle.mix_run.specs.Outputs.{Output}
use Rattle.mix_run.specs.command.Prices.{price_row}

-- what is sold of each good: the supply less what is returned
abbrev pub sold : AuctionText → Answer → List ℤ
sold a answer = map (λ i. get_or a.supply i (pos 0) -ℤ get_or answer.returns.items i (pos 0)) (range_with_len 0 (length a.supply))

-- what all bidders pay together
abbrev pub revenue : Answer → ℤ
revenue answer = total (map (λ share. share.payment) answer.shares)

-- which trial auction it is
abbrev pub trial_row : ℕ → List (List ℕ)
trial_row number = codes "trial" ∷ decimal number ∷ []

-- that, and how many bidders, bids and negative bids each trial auction has
abbrev pub count_rows : ℕ → List (List (List ℕ))
count_rows number = trial_row number ∷ (codes "bidders" ∷ codes "40" ∷ []) ∷ (codes "bids" ∷ codes "1280" ∷ []) ∷ (codes "negatives" ∷ codes "160" ∷ []) ∷ []

abbrev pub sold_row : List ℤ → List (List ℕ)
sold_row units = codes "sold" ∷ map signed_decimal units

abbrev pub revenue_row : ℤ → List (List ℕ)
revenue_row sum = codes "revenue" ∷ signed_decimal sum ∷ []

-- the prices, what is sold, what comes in, and the last row
abbrev pub result_rows : List ℤ → List ℤ → ℤ → List (List (List ℕ))
result_rows prices units sum = price_row prices ∷ sold_row units ∷ revenue_row sum ∷ (codes "end" ∷ []) ∷ []

-- the rows of the summary
abbrev pub summary_rows : ℕ → AuctionText → Answer → List (List (List ℕ))
summary_rows number a answer = count_rows number ++ result_rows answer.prices.items (sold a answer) (revenue answer)

-- the output for a number: the summary of the true answer to its trial auction
abbrev pub IsTrialing : ℕ → Output → Type 0
IsTrialing number output =
    let a = trial_auction (trial_words number) in
    (answer : Answer) × IsTrueAnswer a answer × HaveFirstTights a answer × (output ≡ record { status = 0; bytes = printed (summary_rows number a answer) })
