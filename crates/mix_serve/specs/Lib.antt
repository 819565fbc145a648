pub mod Admissions
pub mod Answers
pub mod LeastPrices
pub mod Solved
