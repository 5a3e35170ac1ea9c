pub mod Ends
pub mod Fitting
pub mod Written
