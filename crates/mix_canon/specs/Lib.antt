pub mod Canons
pub mod Maps
pub mod Searches
