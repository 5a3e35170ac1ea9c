pub mod Rounds
pub mod Best
pub mod CaseLines
pub mod Taken
