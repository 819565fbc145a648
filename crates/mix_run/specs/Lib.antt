pub mod Words
pub mod Outputs
pub mod Replies
pub mod Readings
pub mod command
pub mod Refusals
pub mod Calls
pub mod Causes
