mod PrintedBids
pub mod PrintedAuctions
mod ReadFields
mod ReadBids
mod ReadOrders
mod ReadCaps
mod GatheredBids
pub mod ReadAuctions
mod GeneratorWords
mod DrawnTurns
mod TrialBids
mod TrialNames
mod ConvexBlocks
mod ConvexTrials
mod TrialAuctions
mod TrialWords
