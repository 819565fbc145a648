pub mod Printing
pub mod Words
pub mod Draws
pub mod Trials
