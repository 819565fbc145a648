pub mod Reorderings
