pub mod Joins
pub mod Loops
