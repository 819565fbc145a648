pub mod Sellers
pub mod Laws
pub mod Reaches
