pub mod Tables
pub mod Fates
pub mod Streams
