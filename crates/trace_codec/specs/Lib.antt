pub mod Refusals
pub mod Reading
pub mod Source
