pub mod GrossSupplies
pub mod NetAmounts
pub mod OwnedSoFar
pub mod RangeRows
pub mod TradesOf
pub mod TradeReceipts
