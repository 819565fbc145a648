pub mod ValidLists
pub mod Laws
pub mod Refusals
pub mod Searches
