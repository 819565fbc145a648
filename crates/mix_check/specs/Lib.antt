pub mod Reasons
pub mod Verdicts
pub mod Orders
pub mod Tests
