mod FirstReasons
pub mod AuctionFacts
mod EitherKind
pub mod Truths
mod WordSums
mod TableSums
mod Spares
mod PairNumbers
pub mod FirstFailures
mod FreeFalls
mod DemandTests
pub mod VerdictFacts
