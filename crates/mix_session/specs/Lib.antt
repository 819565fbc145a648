pub mod Additions
pub mod OutcomeTexts
pub mod Plays
pub mod Readings
pub mod Sessions
pub mod Standings
