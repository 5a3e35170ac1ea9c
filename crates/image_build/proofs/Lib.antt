pub mod Replays
pub mod Joined
pub mod Resumed
