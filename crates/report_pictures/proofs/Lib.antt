pub mod Rounds
pub mod Cells
pub mod Numbered
pub mod Merging
