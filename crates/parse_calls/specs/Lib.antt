pub mod Answers
pub mod Expected
pub mod Lookups
pub mod Pairs
pub mod Places
pub mod Room
pub mod Runs
pub mod Turns
