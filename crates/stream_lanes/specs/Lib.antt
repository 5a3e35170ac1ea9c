pub mod Ends
pub mod Rings
pub mod Grids
