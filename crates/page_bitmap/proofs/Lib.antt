pub mod Bits
pub mod Listed
