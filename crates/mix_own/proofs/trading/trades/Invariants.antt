use Rattle.std.proofs.Common.{◌≡◌, All, length}
use Rattle.mix_own.specs.Trades.{IsTrade}
use Rattle.mix_own.proofs.TradesOf.{trades_first}
use Rattle.mix_own.proofs.trading.trades.Given as goal

-- the bidders so far
abbrev pub invariant-loop-k : goal.invariant-loop-k
invariant-loop-k l = record {
  value : l.trades ≡ trades_first l.k l.owned l.answer;
  range : All (IsTrade (length l.answer.prices.items)) l.trades;
}
