pub mod EachWants
pub mod AddedBids
pub mod ManyBids
pub mod DroppedBidders
pub mod NegativeBids
pub mod HigherCaps
