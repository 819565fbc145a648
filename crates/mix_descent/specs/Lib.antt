pub mod Trails
pub mod NearGuesses
