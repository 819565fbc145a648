mod AnswerShapes
pub mod AuctionAnswers
pub mod AuctionPrices
mod FilledRows
mod MarketShares
pub mod MembersInOrder
pub mod PutBack
