pub mod Start
pub mod Machine
pub mod Runs
pub mod Kept
