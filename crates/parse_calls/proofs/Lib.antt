pub mod Found
pub mod Pairs
pub mod Parses
pub mod Runs
pub mod Tried
