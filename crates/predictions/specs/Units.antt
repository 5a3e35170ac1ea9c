pub mod Scales
pub mod Limits
