pub mod Puts
pub mod Appended
pub mod OneRefusal
pub mod Refused
