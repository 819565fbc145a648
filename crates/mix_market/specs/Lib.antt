pub mod Lyapunov
pub mod Steepest
pub mod Lowerings
pub mod Extremes
pub mod Memberships
pub mod Markets
pub mod Gaps
pub mod LargestFalls
