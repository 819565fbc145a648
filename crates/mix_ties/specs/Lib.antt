pub mod Peeled
pub mod Numbered
pub mod Levels
pub mod Shares
pub mod Tights
pub mod Turns
