pub mod Refusals
pub mod Settings
pub mod Sums
pub mod Forecasts
pub mod Shares
pub mod Starts
pub mod Agreements
