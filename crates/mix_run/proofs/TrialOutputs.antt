-- The summary of a trial auction's answer is its output.
use Rattle.std.proofs.Common.{◌≡◌, ◌∙◌, ℕ, ℤ, List, [], ◌++◌, Result, Ok, Err, ap, subst, sym}
use Rattle.std.specs.Prelude.{IfOk}
use Rattle.mix_text.specs.Auctions.{AuctionText}
use Rattle.mix_text.specs.Pages.{printed}
use Rattle.mix_answer.specs.Truths.{HaveFirstTights, IsTrueAnswer}
use Rattle.mix_answer.specs.declared.outcome.Answer.{Answer}
use Rattle.mix_trial.specs.Trials.{trial_auction, trial_words}
use Rattle.mix_run.specs.Outputs.{Output}
use Rattle.mix_run.specs.command.Trial.{IsTrialing, count_rows, result_rows, revenue, sold, summary_rows}
use Rattle.mix_run.proofs.PrintedRows.{rows_append}

pub trial_output : {V E : Type 0} (items : V → List ℕ) (number : ℕ) (a : AuctionText) (answer : Answer) (result : Result V E) → a ≡ trial_auction (trial_words number)
    → IsTrueAnswer a answer → HaveFirstTights a answer → IfOk result (λ v. items v ≡ printed (summary_rows number a answer))
    → IfOk result (λ v. IsTrialing number (record { status = 0; bytes = items v }))
trial_output items number a answer (Ok v) e truth first is =
    let P : AuctionText → Type 0 = λ b. (w : Answer) × IsTrueAnswer b w × HaveFirstTights b w × (let output : Output = record { status = 0; bytes = items v } in let wanted : Output = record { status = 0; bytes = printed (summary_rows number b w) } in output ≡ wanted) in
    subst P e (answer, truth, first, ap (λ (bytes : List ℕ). let output : Output = record { status = 0; bytes = bytes } in output) is)
trial_output items number a answer (Err e) same truth first is = tt

-- the rows of the counts and those of the outcome are the rows of the summary
pub summary_text : {V E : Type 0} (items : V → List ℕ) (number : ℕ) (a : AuctionText) (answer : Answer) (result : Result V E) (start middle ended : List ℕ) (units : List ℤ) (sum : ℤ)
    → IfOk result (λ v. items v ≡ ended) → ended ≡ middle ++ printed (result_rows answer.prices.items units sum) → middle ≡ start ++ printed (count_rows number) → start ≡ []
    → units ≡ sold a answer → sum ≡ revenue answer → IfOk result (λ v. items v ≡ printed (summary_rows number a answer))
summary_text items number a answer (Ok v) start middle ended units sum is last first none sold_units paid =
    is
    ∙ last
    ∙ ap (λ (text : List ℕ). text ++ printed (result_rows answer.prices.items units sum)) (first ∙ ap (λ (text : List ℕ). text ++ printed (count_rows number)) none)
    ∙ ap (λ (xs : List ℤ). printed (count_rows number) ++ printed (result_rows answer.prices.items xs sum)) sold_units
    ∙ ap (λ (x : ℤ). printed (count_rows number) ++ printed (result_rows answer.prices.items (sold a answer) x)) paid
    ∙ sym (rows_append (count_rows number) (result_rows answer.prices.items (sold a answer) (revenue answer)))
summary_text items number a answer (Err e) start middle ended units sum is last first none sold_units paid = tt
