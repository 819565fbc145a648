pub mod HighPoints
