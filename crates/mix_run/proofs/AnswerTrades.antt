-- What an answer of the shape of an auction may be traded with.
use Rattle.std.proofs.Common.{◌≡◌, ◌∙◌, ℤ, List, ap, length, sym, arith}
use Rattle.std.proofs.lemmas.List.{length-map}
use Rattle.std.proofs.lemmas.Slice.Zip.{length-zip}
use Rattle.std.specs.List.{zip}
use Rattle.mix_text.specs.Auctions.{AuctionText}
use Rattle.mix_answer.specs.declared.outcome.Answer.{Answer}
use Rattle.mix_own.specs.Trades.{trade_of, trades_of}
use Rattle.mix_run.specs.command.Range.{IsRanged}
use Rattle.mix_run.specs.declared.command.range.Ranged.{Ranged}

-- there is a trade for each bidder
trades_count : (owned : List (List ℤ)) (answer : Answer) → length owned ≡ length answer.shares → length (trades_of owned answer) ≡ length answer.shares
unfolding trades_of
trades_count owned answer long =
    let pairs = zip answer.shares owned in
    omega (arith, long, length-map pairs (λ p. trade_of answer.prices.items p.0 p.1), length-zip answer.shares owned)

pub ranged_count : (gross : AuctionText) (owned : List (List ℤ)) (ceiling : List ℤ) (ranged : Ranged) → IsRanged gross owned ceiling ranged → length owned ≡ length gross.bidders → length ranged.trades ≡ length gross.bidders
ranged_count gross owned ceiling ranged is long =
    let count = is.shape.count in
    let trades = ap (λ trades. length trades) is.trades in
    omega (arith, count, trades, trades_count owned is.answer (long ∙ sym count))
