pub mod Cheapest
pub mod LikelyCases
pub mod Numbered
pub mod JsonNumbers
pub mod OneAdvice
pub mod PlannedParts
