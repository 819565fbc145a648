mod Stretches
mod Landings
pub mod TrailFacts
mod LowerStarts
mod GuessedClimbs
