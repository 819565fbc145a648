pub mod Handing
pub mod Versions
