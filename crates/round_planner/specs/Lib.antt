pub mod Sizes
pub mod Steps
pub mod Scanning
pub mod Rows
pub mod Indexing
pub mod Ways
pub mod Known
