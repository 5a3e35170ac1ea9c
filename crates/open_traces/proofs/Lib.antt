pub mod RecordPlaces
pub mod Opened
pub mod PageWalks
pub mod PagePlaces
pub mod Searched
