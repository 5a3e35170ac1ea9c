pub mod Shapes
pub mod Bodies
pub mod Reading
pub mod Refusals
