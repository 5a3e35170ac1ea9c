pub mod Runs
pub mod Memories
