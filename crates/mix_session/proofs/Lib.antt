mod AuctionSteps
mod ChangedStandings
pub mod KnownBidders
mod MovedMembers
mod PlayedRows
mod PlayedTexts
mod SessionRows
