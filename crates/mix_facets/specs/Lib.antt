pub mod Levels
pub mod Points
pub mod Counted
pub mod Candidates
pub mod Grids
pub mod Cells
pub mod Totals
