pub mod ZeroBytes
pub mod Steps
pub mod Found
