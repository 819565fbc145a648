pub mod Members
pub mod Totals
pub mod Sums
pub mod Demands
pub mod Scales
pub mod Clearings
pub mod Certificates
