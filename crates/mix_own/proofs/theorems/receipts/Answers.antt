use Rattle.mix_own.proofs.TradeReceipts.{receipts_are}
use Rattle.mix_own.proofs.theorems.receipts.Goals as goal

pub returns : goal.returns
returns c = receipts_are
