pub mod Basics
pub mod Replaying
pub mod Posting
pub mod Listed
pub mod Scanning
pub mod Held
pub mod Copying
