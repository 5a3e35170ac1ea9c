pub mod Replays
pub mod RoundLogs
pub mod CopierStates
pub mod Scans
pub mod Copies
