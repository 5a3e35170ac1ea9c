pub mod Seated
pub mod Joining
pub mod Crews
pub mod Lists
pub mod Runs
pub mod Warm
pub mod Receiving
