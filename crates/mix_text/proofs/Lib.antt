mod Digits
mod Entries
mod Fields
mod Marks
pub mod PrintedNumbers
mod PrintedRows
pub mod ReadBack
pub mod Records
pub mod Spellings
mod Turns
pub mod Gathering
pub mod NoCaps
pub mod CapsRead
pub mod Bids
mod Keys
pub mod FormatLimits
pub mod Steps
pub mod Sound
pub mod SoundAuctions
pub mod AuctionNames
pub mod TieOrders
pub mod FewCells
pub mod NamesSoFar
pub mod Upgrades
pub mod OwnPlaces
mod OrdersWithout
mod BiddersWithout
mod ChangedInPlace
mod OrdersWithOne
mod CapsOfMore
pub mod ChangedAuctions
