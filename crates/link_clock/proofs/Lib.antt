pub mod Changes
pub mod Sending
pub mod Reached
pub mod Clocks
pub mod Stops
pub mod OneLinkSum
