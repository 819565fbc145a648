pub mod Refusals
pub mod Utilities
pub mod Shapes
pub mod Truths
pub mod Outcomes
pub mod Readings
