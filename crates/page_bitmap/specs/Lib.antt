pub mod Pages
pub mod Listing
