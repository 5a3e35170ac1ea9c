pub mod Texts
pub mod Longer
pub mod OneMore
pub mod Visits
pub mod Fronts
