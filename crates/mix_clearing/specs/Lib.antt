pub mod Ceilings
pub mod Completions
pub mod Values
pub mod Scales
pub mod Utilities
pub mod Scarcity
pub mod Fairness
