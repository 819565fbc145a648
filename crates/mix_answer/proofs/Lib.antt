pub mod AuctionNames
pub mod PrintedPages
pub mod PrintedAnswers
pub mod TrueRefusals
pub mod Entrants
mod FirstRows
pub mod SpelledFields
pub mod SpelledRows
pub mod SpelledOutcomes
pub mod PrintableOutcomes
mod Turns
