pub mod Copies
pub mod Pieces
