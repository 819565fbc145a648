pub mod CapsAtScales
mod Chosen
mod Counts
mod LotSums
pub mod UnderCaps
