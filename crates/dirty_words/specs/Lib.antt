pub mod Facts
pub mod Shows
pub mod Plays
pub mod Seats
pub mod Invariants
pub mod Closing
pub mod Pairs
