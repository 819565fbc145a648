pub mod MemberSums
pub mod MemberExtremes
mod Costs
pub mod GoodsSets
mod SlopeTables
pub mod MarketLaws
pub mod MarketFacts
mod Falls
pub mod SingleSteps
