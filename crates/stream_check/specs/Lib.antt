pub mod Stamps
pub mod Faults
pub mod Checked
pub mod Ends
pub mod Receivers
pub mod Streams
