pub mod Sink
pub mod Pieces
