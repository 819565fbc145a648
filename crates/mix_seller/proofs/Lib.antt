mod Steps
mod Choices
mod LongFalls
pub mod SellerRows
