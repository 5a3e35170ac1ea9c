pub mod Cases
pub mod Options
pub mod Jobs
pub mod Commands
pub mod Ends
