pub mod Blocks
pub mod Found
pub mod Outcomes
pub mod TablePlaces
pub mod Turns
