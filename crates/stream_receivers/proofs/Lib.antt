pub mod Came
pub mod Had
pub mod Taken
pub mod Texts
pub mod Holding
pub mod Stood
pub mod Ends
pub mod Viewed
mod Joins
mod FinalJoin
mod Received
