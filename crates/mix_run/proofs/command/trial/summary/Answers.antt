use Rattle.std.proofs.Common.{◌≡◌, ◌++◌, [], IfOk, rules}
use Rattle.mix_text.specs.AuctionTexts.{auction_text}
use Rattle.mix_text.specs.Pages.{printed}
use Rattle.mix_run.specs.command.Trial.{count_rows, result_rows, revenue, sold}
use Rattle.mix_run.proofs.TrialOutputs.{summary_text}
use Rattle.mix_run.proofs.command.trial.summary.Goals as goal

pub returns : goal.returns
returns c =
    let a = auction_text c.args.auction.now in
    let answer = c.args.answer.now in
    let units = c.units_sold-sold.result.items in
    let sum = c.revenue_of-revenue.result in
    let middle = c.add_counts.new.page.ended in
    let ended = c.add_result.new.page.ended in
    let is : IfOk c.finish.result (λ v. v.items ≡ ended) = search rules in
    let last : ended ≡ middle ++ printed (result_rows answer.prices.items units sum) = search rules in
    let first : middle ≡ c.new-page.result.ended ++ printed (count_rows c.args.number) = search rules in
    let start : c.new-page.result.ended ≡ [] = search rules in
    let sold_units : units ≡ sold a answer = search rules in
    let paid : sum ≡ revenue answer = search rules in
    summary_text (λ v. v.items) c.args.number a answer c.finish.result c.new-page.result.ended middle ended units sum is last first start sold_units paid
