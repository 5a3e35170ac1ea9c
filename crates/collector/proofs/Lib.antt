pub mod Tabled
pub mod Taken
pub mod Imaged
pub mod Fated
pub mod FirstRefused
