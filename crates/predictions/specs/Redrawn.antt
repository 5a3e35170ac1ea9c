-- Plans of pages that are drawn again from a sample, and how far chance moves them. The guest that consists of drawn
-- pages is defined in `DrawnPages` of the crate `look_planner`.
pub mod Rounds
pub mod Draws
pub mod Errors
pub mod Sums
