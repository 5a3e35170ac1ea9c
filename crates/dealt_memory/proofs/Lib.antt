pub mod Spotted
pub mod Joined
