pub mod Kept
pub mod Unstamped
pub mod Differences
pub mod Arrivals
