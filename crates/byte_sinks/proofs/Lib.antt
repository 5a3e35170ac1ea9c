pub mod Sinks
pub mod Pieces
pub mod Cuts
pub mod Memories
