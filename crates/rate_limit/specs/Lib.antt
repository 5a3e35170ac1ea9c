pub mod Refusals
pub mod Pacing
