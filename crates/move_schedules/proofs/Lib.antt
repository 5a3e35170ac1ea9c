pub mod GreatestLemmas
pub mod ScheduleLemmas
pub mod Orders
pub mod TableLemmas
pub mod EndLemmas
pub mod WordLemmas
pub mod OneSchedule
