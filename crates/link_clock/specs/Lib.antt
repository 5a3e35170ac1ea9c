pub mod Links
pub mod Plans
