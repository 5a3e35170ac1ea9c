pub mod Refusals
pub mod Pacing
pub mod Bitmaps
pub mod DrawnPages
pub mod Plans
pub mod Laws
pub mod Sums
