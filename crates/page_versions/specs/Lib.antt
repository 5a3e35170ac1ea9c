pub mod Index
pub mod Layout
pub mod Pages
pub mod Runs
pub mod Copies
