pub mod Puts
pub mod Left
pub mod Choices
pub mod OneRefusal
pub mod Agreeing
pub mod Foretold
