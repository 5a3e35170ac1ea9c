pub mod Replay
pub mod Joins
