pub mod Moves
pub mod EveryPage
pub mod EveryPlace
pub mod RealPages
pub mod Runs
pub mod Outcomes
pub mod OneStep
