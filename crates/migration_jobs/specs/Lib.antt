pub mod Output
pub mod Errors
pub mod Shown
pub mod Bytes
